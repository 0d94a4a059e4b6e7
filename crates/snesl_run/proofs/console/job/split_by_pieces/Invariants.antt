use Rattle.snesl_run.proofs.console.job.split_by_pieces.Given as goal
use Rattle.snesl_run.specs.console.Beginnings.{IsScanned}
use Rattle.snesl_run.specs.console.Parts.{AreNeeded}
use Rattle.snesl_data.specs.Counted.{counted_inner, failures_of}
use Rattle.std.proofs.Common.{length, ◌-◌, ◌≡◌, ◌≤◌}
use Rattle.std.specs.Io.KnownBytes.{Consumes}

abbrev pub invariant-loop-program : goal.invariant-loop-program
invariant-loop-program g l = record {
  taken : Consumes (g.R.Read.remaining (counted_inner l.initial.job)) (g.R.Read.remaining (counted_inner l.job)) l.bytes.items;
  count : failures_of l.job ≡ failures_of l.initial.job;
  few : length l.bytes.items ≤ 65542;
  needed : AreNeeded l.bytes.items;
  scanned : IsScanned l.bytes.items l.line l.seen;
}

abbrev pub decreases-loop-program : goal.decreases-loop-program
decreases-loop-program g l = 65543 - length l.bytes.items
