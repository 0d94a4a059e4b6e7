use Rattle.std.proofs.Common.{◌+◌, ◌≤◌}
use Rattle.flow_rings.specs.Edge.{received, SameReader}
use Rattle.flow_edges.specs.lanes.Credits.{credit}
use Rattle.flow_edges.proofs.lanes.counting.told.Given as goal

-- what was read so far
abbrev pub invariant-loop : goal.invariant-loop
invariant-loop l = record {
  same : SameReader l.fn.back l.back;
  count : l.count + credit (received l.fn.back) ≤ credit (received l.back);
}
