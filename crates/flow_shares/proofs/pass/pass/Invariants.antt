use Rattle.flow_shares.proofs.Passes.{Passed}
use Rattle.flow_shares.proofs.pass.pass.Given as goal

-- the visits so far
abbrev pub invariant-loop-k : goal.invariant-loop-k
invariant-loop-k g l = record {
  same : g.E.Ends.same l.fn.ends l.ends;
  passed : Passed l.k l.fn.nodes.items l.nodes.items (g.E.Ends.view l.fn.ends) (g.E.Ends.view l.ends) l.moved;
}
