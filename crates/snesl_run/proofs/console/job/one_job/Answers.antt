use Rattle.snesl_run.proofs.OfConsole.Jobs.{one_job}
use Rattle.snesl_run.proofs.OfConsole.SomeJob.{some_job}
use Rattle.snesl_run.proofs.console.job.one_job.Goals as goal

pub returns : goal.returns
returns c = record { one = one_job; some = some_job }
