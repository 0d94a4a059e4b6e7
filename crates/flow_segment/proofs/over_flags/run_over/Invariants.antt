use Rattle.std.proofs.Common.{◌≡◌, ◌+◌, ◌≤◌, length, take}
use Rattle.flow_segment.specs.FlagBlocks.{RunsOver}
use Rattle.flow_segment.proofs.over_flags.run_over.Given as goal

-- the steps so far, one in each round
abbrev pub invariant-loop : goal.invariant-loop
invariant-loop g l = record {
  counted : l.ran.first + l.ran.second + l.ran.written ≡ l.counter;
  first : l.ran.first ≤ length l.firsts;
  second : l.ran.second ≤ length l.seconds;
  written : l.ran.written ≤ l.room;
  long : length l.block ≡ length l.fn.block;
  ran : RunsOver g.S.Stage.table l.fn.stage (take l.ran.first l.firsts) (take l.ran.second l.seconds) (take l.ran.written l.block) l.ran.stage;
}
