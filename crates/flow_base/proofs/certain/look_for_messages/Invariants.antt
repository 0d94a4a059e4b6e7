use Rattle.std.proofs.Common.{ℕ, List}
use Rattle.flow_messages.specs.Ends.{SameEnds}
use Rattle.flow_base.specs.Visits.{LeavesAlone}
use Rattle.flow_base.proofs.certain.look_for_messages.Given as goal

-- what was looked for so far
abbrev pub invariant-loop-edge : goal.invariant-loop-edge
invariant-loop-edge g l = let view = g.E.Ends.view in record {
  same : g.E.Ends.same l.fn.ends l.ends;
  ends : SameEnds (view l.fn.ends) (view l.ends);
  looked : (outputs : List ℕ) → LeavesAlone l.fn.edges outputs (view l.fn.ends) (view l.ends);
}
