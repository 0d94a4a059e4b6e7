use Rattle.std.proofs.Common.{◌≡◌, drop, map}
use Rattle.snesl_data.specs.Types.{ty_of}
use Rattle.snesl_values.specs.Inputs.{declared}
use Rattle.snesl_types.specs.Verdicts.{are_same}
use Rattle.snesl_types.proofs.forms.arguments_fit.Given as goal

abbrev pub invariant-loop-i : goal.invariant-loop-i
invariant-loop-i l =
    are_same (map ty_of l.types) (map (λ parameter. parameter.1) (declared l.parameters))
    ≡ are_same (map ty_of (drop l.i l.types)) (map (λ parameter. parameter.1) (declared (drop l.i l.parameters)))
