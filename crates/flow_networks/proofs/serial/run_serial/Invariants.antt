use Rattle.std.proofs.Common.{◌<◌, length}
use Rattle.std.specs.List.{All}
use Rattle.flow_networks.specs.Graphs.{states_of, edges_of}
use Rattle.flow_networks.specs.Shapes.{KeepsShape}
use Rattle.flow_networks.specs.MaximalRuns.{RunLeadsTo}
use Rattle.flow_networks.proofs.Nets.{graph_wired}
use Rattle.flow_networks.proofs.Passes.{OthersAreOver, left_of}
use Rattle.flow_networks.proofs.serial.run_serial.Given as goal

-- a run leads to where the graph is, the nodes that are not running are over, and a drop is to come
abbrev pub invariant-passes : goal.invariant-passes
invariant-passes g l = record {
  shape : KeepsShape g.E.Ends.same g.E.Ends.view l.fn.graph l.fn.ends l.graph l.ends;
  reached : RunLeadsTo g.T.Transducer.behaviour (g.E.WholeEnds.capacity l.fn.ends) (states_of l.fn.graph) (edges_of l.fn.graph) (states_of l.graph) (g.E.Ends.view l.ends);
  below : All (λ k. k < length (states_of l.graph)) l.running.items;
  others : OthersAreOver g.T.Transducer.behaviour (g.E.WholeEnds.capacity l.fn.ends) (states_of l.fn.graph) (edges_of l.fn.graph) (states_of l.graph) l.running.items;
  more : 0 < l.left;
}

-- how many messages are still to come
abbrev pub decreases-passes : goal.decreases-passes
decreases-passes g l =
    let graph = l.fn.graph in
    let b = g.T.Transducer.behaviour in
    left_of b (g.E.WholeEnds.capacity l.fn.ends) (states_of graph) (edges_of graph) (graph_wired graph)
    g.met.T.Transducer.laws.settles (g.E.Ends.view l.ends)
