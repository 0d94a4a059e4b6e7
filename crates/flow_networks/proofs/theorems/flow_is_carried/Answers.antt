use Rattle.flow_networks.specs.Graphs.{states_of, edges_of}
use Rattle.flow_networks.proofs.Nets.{graph_network}
use Rattle.flow_networks.proofs.Flows.{flow_is_carried, flow_is_begun, ended_has_flow}
use Rattle.flow_networks.proofs.theorems.flow_is_carried.Goals as goal

pub returns : goal.returns
returns g c =
    let graph = c.args.graph.now in
    let b = g.T.Transducer.behaviour in
    let laws = g.met.T.Transducer.laws in
    let net = graph_network graph laws in
    record {
      carries = flow_is_carried b laws (states_of graph) (edges_of graph) net;
      begins = flow_is_begun b laws (states_of graph) (edges_of graph) net;
      ends = ended_has_flow b laws (states_of graph) (edges_of graph) net;
    }
