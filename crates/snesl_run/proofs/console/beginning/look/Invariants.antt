use Rattle.snesl_run.proofs.console.beginning.look.Given as goal
use Rattle.snesl_run.specs.console.Beginnings.{IsScanned}
use Rattle.std.proofs.Common.{length, suc, ◌-◌}

abbrev pub invariant-loop-n : goal.invariant-loop-n
invariant-loop-n l = IsScanned l.bytes l.line l.from

abbrev pub decreases-loop-n : goal.decreases-loop-n
decreases-loop-n l = suc (length l.bytes) - l.from
