use Rattle.std.proofs.Common.{◌≡◌, take, Some}
use Rattle.std.specs.Prelude.{Ok}
use Rattle.snesl_data.specs.declared.operators.operator.Reduction.TheVariants.{Sum}
use Rattle.snesl_data.specs.declared.operators.scalar.Scalar.TheVariants.{Int}
use Rattle.flow_folds.specs.ReduceBlocks.{reduction_of_ints}
use Rattle.flow_folds.proofs.reduce.sum_of.Given as goal

abbrev pub invariant-loop-place : goal.invariant-loop-place
invariant-loop-place l = reduction_of_ints l.dialect Sum (Some (Int l.fn.total)) (take l.place l.elements) ≡ Ok (Some (Int l.reached))
