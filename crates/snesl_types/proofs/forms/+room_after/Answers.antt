use Rattle.std.proofs.Common.{arith}
use Rattle.snesl_types.proofs.TypeSizes.{type_size_positive}
use Rattle.snesl_types.proofs.forms.+room_after.Goals as goal

pub returns-in_err-rest-clause-over : goal.returns-in_err-rest-clause-over
returns-in_err-rest-clause-over t c = grind (arith, type_size_positive)
