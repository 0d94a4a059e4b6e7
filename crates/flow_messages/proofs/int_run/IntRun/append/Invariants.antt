use Rattle.std.proofs.Common.{◌≡◌, ◌++◌, [], length}
use Rattle.flow_messages.specs.IntRuns.{integers_in}
use Rattle.flow_messages.specs.Runs.{run_items}
use Rattle.flow_messages.proofs.int_run.IntRun.append.Given as goal

-- what both hold, one after the other, is what both held
abbrev pub invariant-loop-number : goal.invariant-loop-number
invariant-loop-number l = record {
  moved : integers_in l.self ++ l.other.wide.items ≡ integers_in l.fn.self ++ integers_in l.fn.other;
  narrow : run_items l.other.narrow ≡ [];
  most : l.self.most ≡ l.fn.self.most;
  other_most : l.other.most ≡ l.fn.other.most;
}

abbrev pub decreases-loop-number : goal.decreases-loop-number
decreases-loop-number l = length l.other.wide.items
