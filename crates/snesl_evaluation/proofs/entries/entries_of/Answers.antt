use Rattle.std.proofs.Common.{◌≡◌, ◌+◌, ◌++◌, ◌∷◌, suc, [], take, map, sym, ap, ◌∙◌, arith}
use Rattle.std.proofs.lemmas.List.{map_push}
use Rattle.snesl_values.specs.Inputs.{environment_of}
use Rattle.snesl_evaluation.specs.Entries.{entry_of}
use Rattle.snesl_evaluation.proofs.Beginnings.{take_next, take_whole}
use Rattle.snesl_evaluation.proofs.entries.entries_of.Goals as goal

pub loop-number-preserved : goal.loop-number-preserved
loop-number-preserved c =
    let environment = environment_of c.args.inputs.now in
    let i = c.loop-number.number in
    let entry = c.in_ok-build_entry.field-0 in
    let next : suc i ≡ i + 1 = omega arith in
    ap (map entry_of) c.in_ok-push.ensures.items
    ∙ map_push entry_of c.loop-number.entries.items entry
    ∙ ap (λ l. l ++ entry_of entry ∷ []) c.loop-number.invariant
    ∙ sym (take_next environment i (entry_of entry) c.in_ok-build_entry.ensures)
    ∙ ap (λ n. take n environment) next

pub returns : goal.returns
returns c =
    let environment = environment_of c.args.inputs.now in
    c.loop-number.invariant ∙ take_whole environment c.loop-number.number (omega (arith, c.loop-number-test.false, c.len-number-end.ensures))
