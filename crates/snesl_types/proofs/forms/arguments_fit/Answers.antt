use Rattle.snesl_data.specs.Types.{ty_of}
use Rattle.snesl_values.specs.Inputs.{declaration_of}
use Rattle.snesl_types.proofs.TypeSizes.{differ_in_length}
use Rattle.snesl_types.proofs.forms.arguments_fit.Goals as goal

pub returns-then-types-parameters : goal.returns-then-types-parameters
returns-then-types-parameters c =
    differ_in_length ty_of declaration_of (λ parameter. parameter.1) c.args.types.now c.args.parameters.now c.if-types-parameters.true
