use Rattle.snesl_run.proofs.console.reading.read_input.Given as goal
use Rattle.snesl_data.specs.Counted.{counted_inner, failures_of}
use Rattle.std.proofs.Common.{List, length, ◌++◌, ◌-◌, ◌≡◌, ◌≤◌, ℕ}
use Rattle.std.specs.Io.KnownBytes.{Consumes}

abbrev pub invariant-loop-text : goal.invariant-loop-text
invariant-loop-text g l = record {
  taken : (more : List ℕ) × Consumes (g.R.Read.remaining (counted_inner l.initial.job)) (g.R.Read.remaining (counted_inner l.job)) more × (l.text.items ≡ l.initial.text.items ++ more);
  few : length l.text.items ≤ 16777217;
  count : failures_of l.job ≡ failures_of l.initial.job;
}

abbrev pub decreases-loop-text : goal.decreases-loop-text
decreases-loop-text g l = 16777218 - length l.text.items
