use Rattle.snesl_translation.proofs.OfWiring.Plans.{plans_are_wired}
use Rattle.snesl_translation.proofs.wiring.laws.plans_are_wired.Goals as goal

pub returns : goal.returns
returns c = plans_are_wired
