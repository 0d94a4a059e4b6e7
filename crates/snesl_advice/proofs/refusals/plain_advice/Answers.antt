use Rattle.std.proofs.Common.{refl}
use Rattle.snesl_advice.specs.Advice.{of_nothing}
use Rattle.snesl_advice.proofs.refusals.plain_advice.Goals as goal

pub returns : goal.returns
returns c = (c.args.at, refl, of_nothing c.in_ok-refusal_message.ensures)
