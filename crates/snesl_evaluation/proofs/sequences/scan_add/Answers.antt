use Rattle.std.proofs.Common.{rules, ◌≡◌, ◌≢◌, ◌+◌, ◌+ℤ◌, ℤ, suc, length, drop, map, get_or, pos, Vec, Global, sym, ap, ◌∙◌, arith}
use Rattle.std.proofs.lemmas.Bool.{eqb-false}
use mir.Val.{to_z, of_z}
use mir.Syntax.{w128}
use Rattle.snesl_data.specs.declared.datum.Datum.{Datum}
use Rattle.snesl_data.specs.Values.{an_int, value_of}
use Rattle.snesl_data.specs.operators.Operators.{ranged}
use Rattle.snesl_data.specs.operators.Reductions.{scan_of, scan_from}
use Rattle.snesl_evaluation.specs.Answer.{answer_at, gives, go}
use Rattle.snesl_evaluation.proofs.Passed.{halt_passes}
use Rattle.snesl_evaluation.proofs.Scans.{scan_step, scan_fault, scan_last, sums_behind}
use Rattle.snesl_evaluation.proofs.sequences.scan_add.Goals as goal

pub returns-in_err-so_far : goal.returns-in_err-so_far
returns-in_err-so_far c =
    let at = c.args.at in
    let dialect = c.args.dialect in
    let i = c.loop-i.i in
    let numbers = c.args.numbers.now in
    let given = map value_of c.loop-i.sums.items in
    let x = get_or numbers i (pos 0) in
    let z : to_z w128 (of_z w128 x) ≡ x = search rules in
    let so_far = to_z w128 c.loop-i.so_far-bits in
    let total = λ (m : ℤ). answer_at at (ranged dialect (so_far +ℤ m)) in
    halt_passes (λ (n : ℤ). n) (λ (sums : Vec Datum Global). map value_of sums.items) c.from_residual-in_err-so_far.result c.in_err-so_far.field-0.0 (total (to_z w128 (of_z w128 x)))
    (go (answer_at at (scan_of dialect numbers)) (λ sums. gives (map an_int sums))) c.from_residual-in_err-so_far.ensures.1 c.in_err-so_far.ensures
    (λ kind place e. c.loop-i.invariant ∙ scan_fault dialect at given so_far (pos 0) numbers i kind place (omega arith) (ap total (sym z) ∙ e))

pub loop-i-preserved : goal.loop-i-preserved
loop-i-preserved c =
    let at = c.args.at in
    let dialect = c.args.dialect in
    let i = c.loop-i.i in
    let numbers = c.args.numbers.now in
    let given = map value_of c.loop-i.sums.items in
    let x = get_or numbers i (pos 0) in
    let y = c.in_ok-so_far.so_far in
    let z : to_z w128 (of_z w128 x) ≡ x = search rules in
    let w : to_z w128 (of_z w128 y) ≡ y = search rules in
    let so_far = to_z w128 c.loop-i.so_far-bits in
    let n : suc i ≡ i + 1 = omega arith in
    c.loop-i.invariant
    ∙ scan_step dialect at given so_far y (pos 0) numbers i (omega arith) (ap (λ m. answer_at at (ranged dialect (so_far +ℤ m))) (sym z) ∙ c.in_ok-so_far.ensures)
    ∙ ap (λ l. sums_behind at l (scan_from dialect y (drop (suc i) numbers))) (sym c.in_ok-add.ensures)
    ∙ ap (λ j. sums_behind at (map value_of c.add.new.values.items) (scan_from dialect y (drop j numbers))) n
    ∙ ap (λ q. sums_behind at (map value_of c.add.new.values.items) (scan_from dialect q (drop (i + 1) numbers))) (sym w)

pub returns : goal.returns
returns c =
    let numbers = c.args.numbers.now in
    let so_far = to_z w128 c.loop-i.so_far-bits in
    let some : length numbers ≢ 0 = eqb-false _ _ (sym c.is_empty.ensures ∙ c.if-is_empty.false) in
    c.loop-i.invariant
    ∙ scan_last c.args.dialect c.args.at (map value_of c.loop-i.sums.items) so_far numbers c.loop-i.i (omega (arith, some))
    ∙ ap gives (sym c.in_ok-add-2.ensures)
