use Rattle.std.proofs.Common.{◌≡◌, drop}
use Rattle.snesl_values.specs.Inputs.{environment_of, value_in}
use Rattle.callers.proofs.values.value_text.Given as goal

abbrev pub invariant-loop-number : goal.invariant-loop-number
invariant-loop-number l =
    value_in l.name (environment_of l.inputs) ≡ value_in l.name (drop l.number (environment_of l.inputs))
