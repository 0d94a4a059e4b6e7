use Rattle.std.proofs.Common.{◌≡◌, map, take, ◌++◌}
use Rattle.snesl_data.specs.Values.{value_of}
use Rattle.snesl_evaluation.proofs.sequences.add_copies.Given as goal

abbrev pub invariant-loop-datum : goal.invariant-loop-datum
invariant-loop-datum l = map value_of l.values.items ≡ map value_of l.fn.values.items ++ map value_of (take l.datum-index l.all)
