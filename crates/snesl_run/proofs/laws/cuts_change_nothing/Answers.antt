use Rattle.snesl_run.proofs.CutParts.{cuts_change_nothing}
use Rattle.snesl_run.proofs.laws.cuts_change_nothing.Goals as goal

pub returns : goal.returns
returns c = cuts_change_nothing c.one_answer.ensures.one c.one_input_meaning.ensures.one
