use Rattle.std.proofs.Common.{◌≡◌, map}
use Rattle.snesl_data.specs.Values.{value_of}
use Rattle.snesl_evaluation.specs.Builtins.{numbers_below}
use Rattle.snesl_evaluation.proofs.sequences.count_up.Given as goal

abbrev pub invariant-loop-i : goal.invariant-loop-i
invariant-loop-i l = map value_of l.numbers.items ≡ numbers_below l.i
