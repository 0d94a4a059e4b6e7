use Rattle.flow_networks.specs.MaximalRuns.{RunReaches}
use Rattle.flow_networks.specs.Shapes.{KeepsShape}
use Rattle.flow_dealing.proofs.trial.pass.Given as goal

-- a run leads to where the graph is
abbrev pub invariant-loop-node : goal.invariant-loop-node
invariant-loop-node g l = record {
  shape : KeepsShape g.E.Ends.same g.E.Ends.view l.fn.graph l.fn.ends l.graph l.ends;
  reached : RunReaches (g.E.WholeEnds.capacity l.fn.ends) l.fn.graph l.graph (g.E.Ends.view l.ends);
}
