use Rattle.std.proofs.Common.{◌≡◌, ◌≤◌, take, Ok, sym, ◌∙◌, ap, arith}
use Rattle.std.proofs.lemmas.List.{take-take, length-take}
use Rattle.snesl_data.specs.declared.dialect.Dialect.{Dialect}
use Rattle.snesl_data.specs.declared.operators.operator.Reduction.{Reduction}
use Rattle.flow_folds.specs.ReduceBlocks.{reduction_of_ints}
use Rattle.flow_folds.proofs.ReduceBlocks.{reduces_none, first_reduced}
use Rattle.flow_folds.proofs.reduce.Reduce.elements_along.Goals as goal

-- it read nothing
pub returns-in_default-clause-along : goal.returns-in_default-clause-along
returns-in_default-clause-along c = reduces_none (c.args.self.now.dialect, c.args.self.now.reduction) c.args.stage

pub returns-then-count-eq0-clause-along : goal.returns-then-count-eq0-clause-along
returns-then-count-eq0-clause-along c = reduces_none (c.args.self.now.dialect, c.args.self.now.reduction) c.args.stage

-- it read elements
pub returns-clause-along : goal.returns-clause-along
returns-clause-along c =
    let p : Dialect × Reduction = (c.args.self.now.dialect, c.args.self.now.reduction) in
    let bs = c.args.flags.now in
    let xs = c.args.elements.now in
    let ahead = c.elements_ahead-ahead in
    let n = c.more_of-count.result.0 in
    let more = c.more_of-count.result.1 in
    let fewer : n ≤ ahead.result = omega (arith, c.more_of-count.ensures.within, length-take ahead.result xs) in
    let block : take n (take ahead.result xs) ≡ take n xs = take-take n ahead.result xs fewer in
    let reduced : reduction_of_ints p.0 p.1 c.in-Some.so_far (take n xs) ≡ Ok more = ap (reduction_of_ints p.0 p.1 c.in-Some.so_far) (sym block) ∙ c.more_of-count.ensures.reduced in
    first_reduced p more c.args.stage c.in-Some.so_far bs xs n (omega (arith, c.if-count-eq0.false)) (omega (arith, fewer, ahead.ensures.shown))
    (omega (arith, fewer, ahead.ensures.within)) (λ k h. ahead.ensures.ahead k (omega (arith, h, fewer))) c.in-Some.ensures reduced
