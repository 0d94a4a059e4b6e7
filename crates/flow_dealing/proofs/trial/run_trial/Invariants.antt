use Rattle.std.proofs.Common.{◌≡◌, length}
use Rattle.flow_messages.specs.Tables.{capacity_of, ends_of}
use Rattle.flow_networks.specs.EdgeKinds.{EdgesTakeAll}
use Rattle.flow_networks.specs.Graphs.{edges_of, states_of}
use Rattle.flow_networks.specs.MaximalRuns.{RunLeadsTo}
use Rattle.flow_networks.specs.Shapes.{IsSameNetwork}
use Rattle.flow_networks.specs.Visits.{HasAllEnds}
use Rattle.flow_dealing.specs.Counts.{AreCounts}
use Rattle.flow_dealing.proofs.trial.run_trial.Given as goal

-- a run leads to where the graph is
abbrev pub invariant-loop : goal.invariant-loop
invariant-loop g l = record {
  network : IsSameNetwork g.T.Transducer.behaviour (states_of l.fn.graph) (edges_of l.fn.graph) (states_of l.graph) (edges_of l.graph);
  capacity : capacity_of l.ends ≡ l.fn.capacity;
  there : HasAllEnds (length (edges_of l.fn.graph)) (ends_of l.ends);
  kinds : EdgesTakeAll l.graph (ends_of l.ends);
  reached : RunLeadsTo g.T.Transducer.behaviour l.fn.capacity (states_of l.fn.graph) (edges_of l.fn.graph) (states_of l.graph) (ends_of l.ends);
}

-- the edges so far are counted
abbrev pub invariant-loop-edge : goal.invariant-loop-edge
invariant-loop-edge g l = AreCounts l.edge (ends_of l.ends) l.counts.items
