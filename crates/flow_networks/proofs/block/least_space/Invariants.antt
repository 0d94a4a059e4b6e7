use Rattle.std.proofs.Common.{ℕ, ◌<◌, ◌≤◌, List}
use Rattle.flow_messages.specs.Ends.{SameEnds}
use Rattle.flow_base.specs.Visits.{edge_of, LeavesAlone}
use Rattle.flow_networks.proofs.block.least_space.Given as goal

-- the least space of the edges so far
abbrev pub invariant-loop-edge : goal.invariant-loop-edge
invariant-loop-edge g l = let view = g.E.Ends.view in record {
  same : g.E.Ends.same l.fn.ends l.ends;
  ends : SameEnds (view l.fn.ends) (view l.ends);
  looked : (inputs : List ℕ) → LeavesAlone inputs l.fn.edges (view l.fn.ends) (view l.ends);
  room : (q : ℕ) → q < l.edge-index → l.least ≤ (view l.ends).room (edge_of l.fn.edges q);
  most : l.least ≤ l.fn.most;
}
