use Rattle.snesl_translation.proofs.Expressions.{expressions_mean}
use Rattle.snesl_translation.proofs.Calls.{functions_mean}
use Rattle.snesl_translation.proofs.laws.expressions_are_translated.Goals as goal

pub returns-clause-expressions : goal.returns-clause-expressions
returns-clause-expressions c = expressions_mean

pub returns-clause-functions : goal.returns-clause-functions
returns-clause-functions c dialect text = functions_mean expressions_mean dialect text
