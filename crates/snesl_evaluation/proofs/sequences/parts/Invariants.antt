use Rattle.std.proofs.Common.{◌≡◌, map, drop}
use Rattle.snesl_data.specs.Values.{value_of}
use Rattle.snesl_evaluation.specs.Answer.{go, gives}
use Rattle.snesl_evaluation.specs.Builtins.{parts_answer, sequence}
use Rattle.snesl_evaluation.proofs.Begun.{behind}
use Rattle.snesl_evaluation.proofs.sequences.parts.Given as goal

abbrev pub invariant-loop-flag : goal.invariant-loop-flag
invariant-loop-flag l =
    go (parts_answer l.at (map value_of l.items) l.flags) (λ parts. gives (map sequence parts))
    ≡ go (parts_answer l.at (drop l.taken (map value_of l.items)) (drop l.flag-index l.flags)) (behind l.at (map value_of l.parts.items) (map value_of l.part.items))
