use Rattle.snesl_translation.proofs.WrittenOut.{one_item_steps, literal_steps}
use Rattle.snesl_translation.proofs.laws.literals_are_written_out.Goals as goal

pub returns-clause-one_item : goal.returns-clause-one_item
returns-clause-one_item c = one_item_steps

pub returns-clause-literal : goal.returns-clause-literal
returns-clause-literal c = literal_steps
