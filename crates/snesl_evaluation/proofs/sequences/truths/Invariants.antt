use Rattle.std.proofs.Common.{◌≡◌, map, drop, ◌++◌}
use Rattle.snesl_data.specs.Values.{value_of}
use Rattle.snesl_evaluation.specs.Answer.{go, go_all, gives}
use Rattle.snesl_evaluation.specs.Builtins.{truth_at}
use Rattle.snesl_evaluation.proofs.sequences.truths.Given as goal

abbrev pub invariant-loop-datum : goal.invariant-loop-datum
invariant-loop-datum l =
    go_all (truth_at l.at) (map value_of l.all) ≡ go (go_all (truth_at l.at) (map value_of (drop l.datum-index l.all))) (λ later. gives (l.read.items ++ later))
