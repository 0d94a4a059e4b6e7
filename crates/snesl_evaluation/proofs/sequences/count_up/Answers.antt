use Rattle.std.proofs.Common.{◌≡◌, map, ◌∷◌, [], ◌++◌, ap, sym, ◌∙◌, pos, arith}
use Rattle.std.proofs.lemmas.Int.{ints as signed}
use Rattle.std.proofs.lemmas.List.FromFn.{map-range_with_len_more}
use mir.Val.{to_z}
use mir.Syntax.{w128}
use Rattle.snesl_data.specs.Values.{an_int, value_of}
use Rattle.snesl_evaluation.proofs.sequences.count_up.Goals as goal

pub loop-i-preserved : goal.loop-i-preserved
loop-i-preserved c =
    let i = c.loop-i.i in
    let z : to_z w128 i ≡ pos i = omega (arith, signed) in
    c.in_ok-add.ensures
    ∙ ap (λ v. map value_of c.loop-i.numbers.items ++ an_int v ∷ []) z
    ∙ ap (λ l. l ++ an_int (pos i) ∷ []) c.loop-i.invariant
    ∙ sym (map-range_with_len_more (λ j. an_int (pos j)) 0 i i (omega arith))
