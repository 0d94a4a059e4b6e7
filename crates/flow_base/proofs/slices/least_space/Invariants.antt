use Rattle.std.proofs.Common.{ℕ, ◌<◌, ◌≤◌, List}
use Rattle.flow_messages.specs.Ends.{SameEnds}
use Rattle.flow_base.specs.Visits.{edge_of, LeavesAlone}
use Rattle.flow_base.proofs.slices.least_space.Given as goal

-- the outputs so far have so much room
abbrev pub invariant-loop-port : goal.invariant-loop-port
invariant-loop-port g l = let view = g.E.Ends.view in record {
  same : g.E.Ends.same l.fn.ends l.ends;
  ends : SameEnds (view l.fn.ends) (view l.ends);
  room : (q : ℕ) → q < l.port → l.least ≤ (view l.ends).room (edge_of l.outputs q);
  alone : (inputs : List ℕ) → LeavesAlone inputs l.outputs (view l.fn.ends) (view l.ends);
}
