use Rattle.std.proofs.Common.{◌≡◌, take, Some, sym, ◌∙◌, ap, subst, rules, to_z, of_z}
use Rattle.std.specs.Int.{w64}
use Rattle.snesl_data.specs.declared.operators.operator.Reduction.TheVariants.{Sum}
use Rattle.snesl_data.specs.declared.operators.scalar.Scalar.TheVariants.{Int}
use Rattle.flow_folds.specs.ReduceMachine.{reduced_kind}
use Rattle.flow_folds.specs.ReduceBlocks.{stage_of_sum, AwaitsFlag, Reduces}
use Rattle.flow_folds.proofs.reduce.Reduce.segments_along.Goals as goal

pub returns-clause-kind : goal.returns-clause-kind
returns-clause-kind c = λ some. ap reduced_kind c.in-Some.ensures.sum

-- the sums, at the reduction's own name
pub returns-clause-along : goal.returns-clause-along
returns-clause-along c =
    let dialect = c.args.self.now.dialect in
    let s = c.args.self.now.stage in
    let went = c.small_sums_along-passed in
    let total = c.in-Some.total in
    let flags = take went.result.0 c.args.flags.now in
    let elements = take went.result.1 c.args.elements.now in
    let sums = take went.result.2 went.new.sums in
    let more = went.result.3 in
    let back : to_z w64 (of_z w64 total) ≡ total = search rules in
    let back_more : to_z w64 (of_z w64 more) ≡ more = search rules in
    let so_far = subst (λ k. AwaitsFlag c.args.self.now.reduction s (Some (Int k))) (sym back) c.in-Some.ensures.so_far in
    let along = (went.ensures.along dialect s (subst (λ r. AwaitsFlag r s (Some (Int (to_z w64 (of_z w64 total))))) c.in-Some.ensures.sum so_far)).0 in
    let stage = c.pass_sum.new.self.stage in
    let leads : stage_of_sum s more flags ≡ stage = ap (λ k. stage_of_sum s k flags) (sym back_more) ∙ sym c.pass_sum.ensures.stage in
    subst (λ r. Reduces (dialect, r) s flags elements sums stage) (sym c.in-Some.ensures.sum) (subst (Reduces (dialect, Sum) s flags elements sums) leads along)
