use Rattle.snesl_evaluation.proofs.Meanings.{choice_meaning, condition_meaning, one_item_meaning, literal_meaning}
use Rattle.snesl_evaluation.proofs.laws.derived_forms.Goals as goal

pub returns-clause-condition : goal.returns-clause-condition
returns-clause-condition c = condition_meaning

pub returns-clause-one_item : goal.returns-clause-one_item
returns-clause-one_item c = one_item_meaning

pub returns-clause-literal : goal.returns-clause-literal
returns-clause-literal c = literal_meaning

pub returns-clause-choice : goal.returns-clause-choice
returns-clause-choice c = choice_meaning
