use Rattle.std.proofs.Common.{◌-◌, ◌≤◌, length}
use Rattle.flow_scalar.proofs.IotaBlocks.{Rounds}
use Rattle.flow_scalar.proofs.iota.IotaWorker.along.Given as goal

-- the rounds so far
abbrev pub invariant-loop-made : goal.invariant-loop-made
invariant-loop-made l = record {
  in_counts : l.read ≤ length l.counts;
  before : l.read ≤ l.made;
  within : l.made ≤ l.rounds;
  ran : Rounds l.fn.self l.next l.end l.counts l.block.flags l.block.ints l.read l.made;
}

abbrev pub decreases-loop-made : goal.decreases-loop-made
decreases-loop-made l = l.rounds - l.made
