use Rattle.std.proofs.Common.{refl}
use Rattle.snesl_run.specs.Prints.{under}
use Rattle.snesl_run.proofs.Printing.{words_answered}
use Rattle.snesl_run.proofs.answers.answer.Goals as goal

pub returns-in-Ok : goal.returns-in-Ok
returns-in-Ok g c = under c.in-Ok.config c.in-Ok.ensures.fields c.in-Ok.ensures.lawful c.answer_job.ensures

pub returns-in-Err : goal.returns-in-Err
returns-in-Err g c = words_answered c.in-Err.refusal c.refuse_words.result c.in-Err.ensures.unsaid refl c.refuse_words.ensures
