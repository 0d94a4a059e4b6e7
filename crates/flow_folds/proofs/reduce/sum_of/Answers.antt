use Rattle.std.proofs.Common.{◌≡◌, ◌+◌, ◌++◌, [], ◌∷◌, Some, ◌+ℤ◌, take, get_or, pos, sym, ◌∙◌, ap, rules, to_z, of_z}
use Rattle.std.specs.Int.{w64, w128}
use mir.Val.{SFits}
use Rattle.flow_messages.proofs.Widened.{widened}
use Rattle.std.specs.Prelude.{Ok}
use Rattle.std.proofs.lemmas.List.{take_more}
use Rattle.snesl_data.specs.operators.Operators.{ranged, an_integer}
use Rattle.snesl_data.specs.operators.Reductions.{some_of, reduced_more}
use Rattle.snesl_data.specs.declared.operators.operator.Reduction.TheVariants.{Sum}
use Rattle.snesl_data.specs.declared.operators.scalar.Scalar.TheVariants.{Int}
use Rattle.flow_folds.specs.ReduceBlocks.{reduction_of_ints}
use Rattle.flow_folds.proofs.ReduceBlocks.{one_int_more}
use Rattle.flow_folds.proofs.reduce.sum_of.Goals as goal

pub loop-place-preserved : goal.loop-place-preserved
loop-place-preserved c =
    let xs = c.args.elements.now in
    let place = c.loop-place.place in
    let x = get_or xs place (pos 0) in
    let block : take (place + 1) xs ≡ take place xs ++ x ∷ [] = take_more xs place (pos 0) c.loop-place-test.true in
    let fits : SFits w64 x = search rules in
    let back : to_z w128 (of_z w128 (to_z w64 (of_z w64 x))) ≡ x = widened x fits in
    let dialect = c.args.dialect in
    let total = to_z w128 (of_z w128 c.args.total) in
    let reached = to_z w128 c.loop-place.reached-bits in
    let more = c.in-Ok.more in
    let back_more : to_z w128 (of_z w128 more) ≡ more = search rules in
    let step : reduced_more dialect Sum (Some (Int reached)) (Int x) ≡ Ok (Some (Int more)) =
    ap (λ k. some_of (an_integer (ranged dialect (reached +ℤ k)))) (sym back) ∙ ap (λ r. some_of (an_integer r)) (sym c.in-Ok.ensures) in
    ap (reduction_of_ints dialect Sum (Some (Int total))) block
    ∙ one_int_more dialect Sum (Some (Int total)) (Some (Int reached)) (Some (Int more)) (take place xs) x c.loop-place.invariant step
    ∙ ap (λ k. Ok (Some (Int k))) (sym back_more)
