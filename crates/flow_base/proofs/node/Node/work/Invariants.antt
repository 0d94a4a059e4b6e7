use Rattle.std.proofs.Common.{◌≡◌, nat_lt}
use Rattle.flow_base.specs.declared.node.Phase.TheVariants.{Working}
use Rattle.flow_base.specs.Members.{node_of}
use Rattle.flow_base.proofs.Visits.{Made}
use Rattle.flow_base.proofs.node.Node.work.Given as goal

-- the steps so far, one in each round
abbrev pub invariant-loop-made : goal.invariant-loop-made
invariant-loop-made g l = let node = node_of g.W.Worker.state g.W.Worker.machine in record {
  same : g.E.Ends.same l.fn.ends l.ends;
  works : l.self.phase ≡ Working;
  made : Made node.behaviour l.fn.edges.inputs.now l.fn.edges.outputs.now (node.state l.fn.self) (g.E.Ends.view l.fn.ends) (node.state l.self) (g.E.Ends.view l.ends) (nat_lt 0 l.made);
}
