use Rattle.flow_edges.specs.lanes.Followed.{TakesInTurn}
use Rattle.flow_edges.proofs.lanes.taking.take_each.Given as goal

-- what was taken so far
abbrev pub invariant-loop : goal.invariant-loop
invariant-loop l = TakesInTurn l.counter l.fn.reader l.reader
