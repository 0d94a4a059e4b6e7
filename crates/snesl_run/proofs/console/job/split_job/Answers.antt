use Rattle.snesl_run.proofs.OfConsole.Parts.{nothing_is_needed}
use Rattle.snesl_run.proofs.OfConsole.Splits.{passed_on}
use Rattle.snesl_run.proofs.OfConsole.Streaming.{consumes_none}
use Rattle.snesl_run.proofs.console.job.split_job.Goals as goal
use Rattle.snesl_run.specs.console.Streams.{read_effect}
use Rattle.snesl_run.specs.declared.console.job.JobError.TheVariants.{NoMemory}
use Rattle.snesl_data.specs.Counted.{counted_inner}
use Rattle.std.proofs.Common.{[], refl}

pub returns-in_err-piece : goal.returns-in_err-piece
returns-in_err-piece g c =
    passed_on (read_effect g.R.Read.remaining c.args.job.now c.args.job.now) c.from_residual.result NoMemory c.from_residual.ensures.1
    ([], (consumes_none (g.R.Read.remaining (counted_inner c.args.job.now)), nothing_is_needed, refl))
