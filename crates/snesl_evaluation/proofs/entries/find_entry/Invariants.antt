use Rattle.std.proofs.Common.{◌≡◌, drop, map}
use Rattle.snesl_values.specs.Inputs.{value_in}
use Rattle.snesl_evaluation.specs.Entries.{entry_of}
use Rattle.snesl_evaluation.proofs.entries.find_entry.Given as goal

abbrev pub invariant-loop-entry : goal.invariant-loop-entry
invariant-loop-entry l =
    value_in l.name (map entry_of l.entries) ≡ value_in l.name (map entry_of (drop l.entry-index l.entries))
