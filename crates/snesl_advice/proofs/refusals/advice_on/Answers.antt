use Rattle.snesl_advice.proofs.Advised.{mismatch_told}
use Rattle.snesl_advice.proofs.refusals.advice_on.Goals as goal

pub returns-in-Mismatch-clause-told : goal.returns-in-Mismatch-clause-told
returns-in-Mismatch-clause-told c = mismatch_told c.args.program.now c.in-Mismatch.at c.args.input.now c.mismatch_advice.result c.mismatch_advice.ensures
