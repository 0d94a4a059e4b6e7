use Rattle.std.proofs.Common.{◌≡◌, ◌<◌, true, take}
use Rattle.flow_networks.specs.Graphs.{states_of, edges_of}
use Rattle.flow_networks.specs.Shapes.{KeepsShape}
use Rattle.flow_networks.specs.Visits.{Visits}
use Rattle.flow_networks.proofs.pass.pass_over.Given as goal

-- the nodes so far were visited
abbrev pub invariant-loop-node : goal.invariant-loop-node
invariant-loop-node g l = record {
  shape : KeepsShape g.E.Ends.same g.E.Ends.view l.fn.graph l.fn.ends l.graph l.ends;
  visits : Visits g.T.Transducer.behaviour (g.E.WholeEnds.capacity l.fn.ends) (take l.node-index l.nodes) (edges_of l.fn.graph) (states_of l.fn.graph)
      (g.E.Ends.view l.fn.ends) (states_of l.graph) (g.E.Ends.view l.ends) l.moved;
  some : l.moved ≡ true → 0 < l.node-index;
}
