use Rattle.std.proofs.Common.{◌≡◌, pos, false, slice_index_or, slice_set, Ok, sym, ◌∙◌, ap, arith, rules}
use borrow.Author.Count.{below_more}
use Rattle.std.proofs.lemmas.List.{get_or-set_same, get_or-set_other}
use Rattle.snesl_data.specs.operators.Operators.{binary_value}
use Rattle.snesl_data.specs.declared.operators.scalar.Scalar.TheVariants.{Int, Bool as Truth}
use Rattle.flow_scalar.proofs.binary.flags_by.Goals as goal

-- one value more
pub loop-at-preserved : goal.loop-at-preserved
loop-at-preserved c =
    let d = c.args.dialect in
    let op = c.args.operator in
    let xs = c.args.lefts.now in
    let ys = c.args.rights.now in
    let zs = c.loop-at.values in
    let i = c.loop-at.at in
    let z = c.in-Ok-Bool.value in
    let value : c.apply.result ≡ binary_value d op (Int (slice_index_or xs i (pos 0))) (Int (slice_index_or ys i (pos 0))) = search rules in
    let here : binary_value d op (Int (slice_index_or xs i (pos 0))) (Int (slice_index_or ys i (pos 0))) ≡ Ok (Truth z) = sym value ∙ c.in-Ok-Bool.is ∙ ap Ok c.in-Ok-Bool.field-0-is in
    below_more (λ k. binary_value d op (Int (slice_index_or xs k (pos 0))) (Int (slice_index_or ys k (pos 0)))
    ≡ Ok (Truth (slice_index_or (slice_set zs i z) k false))) i
    (λ k below. c.loop-at.invariant k below ∙ ap (λ b. Ok (Truth b)) (sym (get_or-set_other zs i k z false (omega arith))))
    (here ∙ ap (λ b. Ok (Truth b)) (sym (get_or-set_same zs i z false (omega arith))))
