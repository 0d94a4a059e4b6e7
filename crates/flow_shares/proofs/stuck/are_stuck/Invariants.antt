use Rattle.flow_shares.proofs.Looked.{AreStuckSoFar}
use Rattle.flow_shares.proofs.stuck.are_stuck.Given as goal

-- the nodes so far
abbrev pub invariant-loop-placed : goal.invariant-loop-placed
invariant-loop-placed g l = record {
  same : g.E.Ends.same l.fn.ends l.ends;
  so_far : AreStuckSoFar l.placed-index l.nodes (g.E.Ends.view l.fn.ends) (g.E.Ends.view l.ends);
}
