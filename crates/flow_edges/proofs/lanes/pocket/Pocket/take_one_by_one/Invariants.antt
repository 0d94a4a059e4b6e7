use Rattle.flow_edges.specs.lanes.Taken.{TookFirst}
use Rattle.flow_edges.proofs.lanes.pocket.Pocket.take_one_by_one.Given as goal

-- what was taken so far
abbrev pub invariant-loop : goal.invariant-loop
invariant-loop l = TookFirst l.counter l.fn.self l.self
