use Rattle.std.proofs.Common.{◌≡◌, map, drop, ◌++◌}
use Rattle.snesl_data.specs.Values.{an_int, value_of}
use Rattle.snesl_data.specs.operators.Reductions.{scan_of, scan_from}
use Rattle.snesl_evaluation.specs.Answer.{answer_at, go, gives}
use Rattle.snesl_evaluation.proofs.sequences.scan_add.Given as goal

abbrev pub invariant-loop-i : goal.invariant-loop-i
invariant-loop-i l =
    go (answer_at l.at (scan_of l.dialect l.numbers)) (λ sums. gives (map an_int sums))
    ≡ go (answer_at l.at (scan_from l.dialect l.so_far (drop l.i l.numbers))) (λ later. gives (map value_of l.sums.items ++ map an_int later))
