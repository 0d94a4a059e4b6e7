use Rattle.std.proofs.Common.{◌≡◌, ◌+◌, ◌++◌, [], ◌∷◌, Some, take, get_or, pos, sym, ◌∙◌, ap, rules, to_z, of_z}
use Rattle.std.specs.Int.{w64, w128}
use mir.Val.{SFits}
use Rattle.flow_messages.proofs.Widened.{widened}
use Rattle.std.specs.Prelude.{Ok, int_lt, if◌then◌else◌}
use Rattle.std.proofs.lemmas.List.{take_more}
use Rattle.snesl_data.specs.operators.Reductions.{reduced_more}
use Rattle.snesl_data.specs.declared.operators.operator.Reduction.TheVariants.{Max}
use Rattle.snesl_data.specs.declared.operators.scalar.Scalar.TheVariants.{Int}
use Rattle.flow_folds.specs.ReduceBlocks.{reduction_of_ints}
use Rattle.flow_folds.proofs.ReduceBlocks.{one_int_more}
use Rattle.flow_folds.proofs.reduce.greatest_of.Goals as goal

pub loop-place-preserved : goal.loop-place-preserved
loop-place-preserved c = λ dialect.
    let xs = c.args.elements.now in
    let place = c.loop-place.place in
    let x = get_or xs place (pos 0) in
    let block : take (place + 1) xs ≡ take place xs ++ x ∷ [] = take_more xs place (pos 0) c.loop-place-test.true in
    let fits : SFits w64 x = search rules in
    let back : to_z w128 (of_z w128 (to_z w64 (of_z w64 x))) ≡ x = widened x fits in
    let before = to_z w128 (of_z w128 c.args.before) in
    let held = to_z w128 c.loop-place.greatest-bits in
    let greatest = c.greater-greatest.result in
    let back_greatest : to_z w128 (of_z w128 greatest) ≡ greatest = search rules in
    let step : reduced_more dialect Max (Some (Int held)) (Int x) ≡ Ok (Some (Int greatest)) =
    ap (λ k. Ok (Some (Int (if int_lt held k then k else held)))) (sym back) ∙ ap (λ k. Ok (Some (Int k))) (sym c.greater-greatest.ensures) in
    ap (reduction_of_ints dialect Max (Some (Int before))) block
    ∙ one_int_more dialect Max (Some (Int before)) (Some (Int held)) (Some (Int greatest)) (take place xs) x (c.loop-place.invariant dialect) step
    ∙ ap (λ k. Ok (Some (Int k))) (sym back_greatest)
