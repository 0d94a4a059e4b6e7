use Rattle.snesl_run.proofs.OfConsole.Splits.{input_stopped}
use Rattle.snesl_run.proofs.console.reading.read_input.Goals as goal
use Rattle.std.proofs.Common.{arith, ◌+◌, ◌-◌}

pub returns-in_err-read_more : goal.returns-in_err-read_more
returns-in_err-read_more g c =
    input_stopped g.R.Read.remaining c.args.job.now c.loop-text.job c.read_more.new.job c.args.text.now.items c.loop-text.text.items c.read_more.new.bytes.items
    c.loop-text.invariant.taken c.loop-text.invariant.count (omega arith) (16777216 + 1 - c.len-in-loop-text.result) (omega arith)
    c.from_residual.result c.in_err-read_more.field-0.0 c.from_residual.ensures.1 c.in_err-read_more.ensures
