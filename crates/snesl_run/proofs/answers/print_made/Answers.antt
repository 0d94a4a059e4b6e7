use Rattle.std.proofs.Common.{refl}
use Rattle.snesl_data.specs.declared.refusal.Refusal.TheVariants.{NoMemory}
use Rattle.snesl_run.proofs.OfConsole.Printing.{system_refused}
use Rattle.snesl_run.proofs.answers.print_made.Goals as goal

pub returns-in-Err : goal.returns-in-Err
returns-in-Err g c = rw c.in-Err.is (system_refused NoMemory c.complain.result refl refl c.complain.ensures.told c.complain.ensures.status)
