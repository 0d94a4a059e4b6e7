use Rattle.snesl_values.proofs.InputMeanings.{one_meaning}
use Rattle.snesl_values.proofs.SomeMeaning.{some_meaning}
use Rattle.snesl_values.proofs.inputs.one_input_meaning.Goals as goal

pub returns : goal.returns
returns c = record { one = one_meaning; some = some_meaning }
