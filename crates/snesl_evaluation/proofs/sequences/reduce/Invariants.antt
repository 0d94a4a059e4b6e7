use Rattle.std.proofs.Common.{◌≡◌, drop}
use Rattle.snesl_data.specs.operators.Reductions.{reduction_of, reduction_from}
use Rattle.snesl_evaluation.proofs.sequences.reduce.Given as goal

abbrev pub invariant-loop-x : goal.invariant-loop-x
invariant-loop-x l = reduction_of l.dialect l.reduction l.all ≡ reduction_from l.dialect l.reduction l.so_far (drop l.x-index l.all)
