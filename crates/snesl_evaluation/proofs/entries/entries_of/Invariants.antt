use Rattle.std.proofs.Common.{◌≡◌, take, map}
use Rattle.snesl_values.specs.Inputs.{environment_of}
use Rattle.snesl_evaluation.specs.Entries.{entry_of}
use Rattle.snesl_evaluation.proofs.entries.entries_of.Given as goal

abbrev pub invariant-loop-number : goal.invariant-loop-number
invariant-loop-number l =
    map entry_of l.entries.items ≡ take l.number (environment_of l.inputs)
