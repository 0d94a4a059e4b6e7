use Rattle.snesl_translation.proofs.Expressions.{expressions_mean}
use Rattle.snesl_translation.proofs.Plans.{plans_mean}
use Rattle.snesl_translation.proofs.laws.programs_are_planned.Goals as goal

pub returns : goal.returns
returns c = plans_mean expressions_mean
