use Rattle.std.proofs.Common.{◌≡◌, map, take}
use Rattle.snesl_data.specs.Types.{ty_of}
use Rattle.snesl_values.specs.Inputs.{declared}
use Rattle.snesl_types.proofs.misfits.copied_types.Given as goal

abbrev pub invariant-loop-parameter : goal.invariant-loop-parameter
invariant-loop-parameter l = map ty_of l.types.items ≡ map (λ parameter. parameter.1) (declared (take l.parameter-index l.parameters))
