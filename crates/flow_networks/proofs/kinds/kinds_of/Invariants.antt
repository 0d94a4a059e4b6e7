use Rattle.std.proofs.Common.{◌≡◌, take}
use Rattle.flow_networks.specs.Graphs.{states_of, edges_of}
use Rattle.flow_networks.specs.EdgeKinds.{edge_kinds}
use Rattle.flow_networks.proofs.kinds.kinds_of.Given as goal

abbrev pub invariant-loop-number : goal.invariant-loop-number
invariant-loop-number g l = record {
  made : l.kinds.items ≡ edge_kinds g.T.Transducer.behaviour (states_of l.graph) (take l.number (edges_of l.graph));
}
