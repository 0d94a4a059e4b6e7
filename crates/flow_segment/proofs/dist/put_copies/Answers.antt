use Rattle.std.proofs.Common.{◌≡◌, ℕ, ◌<◌, true, false, pos, length, take, get_or, to_z, of_z, refl, sym, ◌∙◌, ap, subst, arith, rules}
use Rattle.std.specs.Int.{w64, w128}
use Rattle.std.proofs.lemmas.Int.{to_z-of_z}
use mir.Val.{SFits}
use Rattle.std.specs.Prelude.{replicate}
use Rattle.std.proofs.lemmas.List.{take-replicate, take_all, length-take-le}
use Rattle.flow_messages.specs.Cells.{cell_of, unit, flag, int}
use Rattle.flow_messages.specs.Ends.{PutAll}
use Rattle.flow_messages.specs.Kinds.{FitsEdge}
use Rattle.flow_messages.specs.declared.message.Kind.TheVariants.{Unit as UnitKind, Bool as BoolKind, Int as IntKind}
use Rattle.flow_messages.specs.Blocks.{flag_signals, int_signals}
use Rattle.flow_messages.specs.Signals.{carry}
use Rattle.flow_segment.proofs.DistBlocks.{same_block, flags_same, ints_same}
use Rattle.flow_messages.proofs.Fitting.{fits_takes}
use Rattle.flow_segment.proofs.dist.put_copies.Goals as goal

pub put_all-requires-clause-kind : goal.put_all-requires-clause-kind
put_all-requires-clause-kind g c =
    let edge = (g.E.Ends.view c.args.ends.now).kind c.args.to in
    fits_takes edge UnitKind unit refl (subst (λ i. FitsEdge edge (carry (cell_of i))) c.in-Unit.is c.requires.kind)

pub put_all-requires-then-truth-clause-kind : goal.put_all-requires-then-truth-clause-kind
put_all-requires-then-truth-clause-kind g c =
    let edge = (g.E.Ends.view c.args.ends.now).kind c.args.to in
    fits_takes edge BoolKind (flag c.in-Bool.truth) refl (subst (λ i. FitsEdge edge (carry (cell_of i))) c.in-Bool.is c.requires.kind)

pub put_all-requires-else-truth-clause-kind : goal.put_all-requires-else-truth-clause-kind
put_all-requires-else-truth-clause-kind g c =
    let edge = (g.E.Ends.view c.args.ends.now).kind c.args.to in
    fits_takes edge BoolKind (flag c.in-Bool.truth) refl (subst (λ i. FitsEdge edge (carry (cell_of i))) c.in-Bool.is c.requires.kind)

pub put_all-requires-in-Int-clause-kind : goal.put_all-requires-in-Int-clause-kind
put_all-requires-in-Int-clause-kind g c =
    let edge = (g.E.Ends.view c.args.ends.now).kind c.args.to in
    fits_takes edge IntKind (int c.in-Int.value) refl (subst (λ i. FitsEdge edge (carry (cell_of i))) c.in-Int.is c.requires.kind)

pub returns-then-truth-clause-put : goal.returns-then-truth-clause-put
returns-then-truth-clause-put g c =
    let n = c.args.count in
    let says : flag_signals (take n (replicate 64 true)) ≡ replicate n (carry (cell_of c.args.item.now)) =
    ap flag_signals (take-replicate n 64 true c.requires.block) ∙ flags_same n true ∙ ap (λ b. replicate n (carry (flag b))) (sym c.if-truth.true)
    ∙ ap (λ i. replicate n (carry (cell_of i))) (sym c.in-Bool.is) in
    subst (λ ms. PutAll (g.E.Ends.view c.args.ends.now) c.args.to ms (g.E.Ends.view c.put_all-then-truth.new.self)) says c.put_all-then-truth.ensures.put

pub returns-else-truth-clause-put : goal.returns-else-truth-clause-put
returns-else-truth-clause-put g c =
    let n = c.args.count in
    let says : flag_signals (take n (replicate 64 false)) ≡ replicate n (carry (cell_of c.args.item.now)) =
    ap flag_signals (take-replicate n 64 false c.requires.block) ∙ flags_same n false
    ∙ ap (λ b. replicate n (carry (flag b))) (sym c.if-truth.false) ∙ ap (λ i. replicate n (carry (cell_of i))) (sym c.in-Bool.is) in
    subst (λ ms. PutAll (g.E.Ends.view c.args.ends.now) c.args.to ms (g.E.Ends.view c.put_all-else-truth.new.self)) says c.put_all-else-truth.ensures.put

pub returns-in-Ok-clause-put : goal.returns-in-Ok-clause-put
returns-in-Ok-clause-put g c =
    let n = c.args.count in
    let v = c.in-Int.value in
    let xs = c.fill.new.places in
    let fits : SFits w128 v = search rules in
    let narrow = c.in-Ok.narrow in
    let narrow_fits : SFits w64 narrow = search rules in
    let back : to_z w64 (of_z w64 narrow) ≡ v = to_z-of_z w64 narrow narrow_fits ∙ c.in-Ok.ensures.1 ∙ to_z-of_z w128 v fits in
    let part : length (take n c.args.block.now) ≡ n = length-take-le n c.args.block.now c.requires.lent in
    let long : length xs ≡ n = c.fill.ensures.length ∙ part in
    let filled : (k : ℕ) → k < n → get_or xs k (pos 0) ≡ v = λ k h. c.fill.ensures.filled k (omega arith) ∙ back in
    let same : xs ≡ replicate n v = sym (take_all n xs (omega arith)) ∙ same_block v (pos 0) n xs (omega arith) filled in
    let says : int_signals xs ≡ replicate n (carry (cell_of c.args.item.now)) = ap int_signals same ∙ ints_same n v ∙ ap (λ i. replicate n (carry (cell_of i))) (sym c.in-Int.is) in
    subst (λ ms. PutAll (g.E.Ends.view c.args.ends.now) c.args.to ms (g.E.Ends.view c.put_all-in-Int.new.self)) says c.put_all-in-Int.ensures.put
