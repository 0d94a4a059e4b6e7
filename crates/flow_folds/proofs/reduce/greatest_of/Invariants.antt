use Rattle.std.proofs.Common.{◌≡◌, take, Some}
use Rattle.std.specs.Prelude.{Ok}
use Rattle.snesl_data.specs.declared.dialect.Dialect.{Dialect}
use Rattle.snesl_data.specs.declared.operators.operator.Reduction.TheVariants.{Max}
use Rattle.snesl_data.specs.declared.operators.scalar.Scalar.TheVariants.{Int}
use Rattle.flow_folds.specs.ReduceBlocks.{reduction_of_ints}
use Rattle.flow_folds.proofs.reduce.greatest_of.Given as goal

abbrev pub invariant-loop-place : goal.invariant-loop-place
invariant-loop-place l = (dialect : Dialect) → reduction_of_ints dialect Max (Some (Int l.fn.before)) (take l.place l.elements) ≡ Ok (Some (Int l.greatest))
