use Rattle.std.proofs.Common.{◌≡◌, drop}
use Rattle.snesl_values.specs.Inputs.{declared}
use Rattle.snesl_types.specs.Contexts.{type_in}
use Rattle.snesl_types.proofs.names.type_in.Given as goal

abbrev pub invariant-loop-bytes : goal.invariant-loop-bytes
invariant-loop-bytes l = type_in l.name (declared l.names) ≡ type_in l.name (declared (drop l.bytes-index l.names))
