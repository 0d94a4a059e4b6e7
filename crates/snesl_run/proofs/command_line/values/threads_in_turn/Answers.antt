use Rattle.std.proofs.Common.{arith}
use Rattle.std.proofs.lemmas.Grind.{common_steps}
use Rattle.snesl_run.proofs.OfCommandLine.Ranges.{below_more}
use Rattle.snesl_run.proofs.command_line.values.threads_in_turn.Goals as goal

pub loop-thread-preserved : goal.loop-thread-preserved
loop-thread-preserved c =
    let more = below_more c.loop-thread.thread in
    grind (arith, common_steps)
