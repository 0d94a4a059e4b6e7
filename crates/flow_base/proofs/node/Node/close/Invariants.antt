use Rattle.std.proofs.Common.{◌≡◌, false}
use Rattle.flow_base.specs.Members.{node_of}
use Rattle.flow_base.proofs.Visits.{Made}
use Rattle.flow_base.proofs.node.Node.close.Given as goal

-- the steps so far, one in each round
abbrev pub invariant-loop : goal.invariant-loop
invariant-loop g l = let node = node_of g.W.Worker.state g.W.Worker.machine in record {
  same : g.E.Ends.same l.fn.ends l.ends;
  made : Made node.behaviour l.fn.edges.inputs.now l.fn.edges.outputs.now (node.state l.fn.self) (g.E.Ends.view l.fn.ends) (node.state l.self) (g.E.Ends.view l.ends) l.moved;
  first : l.moved ≡ false → l.counter ≡ 0;
}
