use Rattle.std.proofs.Common.{◌≡◌, map, drop, ◌++◌}
use Rattle.snesl_data.specs.Values.{value_of}
use Rattle.snesl_evaluation.specs.Answer.{go, go_join, gives}
use Rattle.snesl_evaluation.specs.Builtins.{items_at}
use Rattle.snesl_evaluation.proofs.sequences.joined.Given as goal

abbrev pub invariant-loop-datum : goal.invariant-loop-datum
invariant-loop-datum l =
    go_join (items_at l.at) (map value_of l.all) ≡ go (go_join (items_at l.at) (map value_of (drop l.datum-index l.all))) (λ later. gives (map value_of l.values.items ++ later))
