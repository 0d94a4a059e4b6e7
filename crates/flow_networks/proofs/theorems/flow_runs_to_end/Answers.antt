use Rattle.flow_networks.specs.Graphs.{states_of, edges_of}
use Rattle.flow_networks.proofs.Nets.{graph_network}
use Rattle.flow_networks.proofs.Flows.{flow_never_stalls, flow_runs_to_end}
use Rattle.flow_networks.proofs.theorems.flow_runs_to_end.Goals as goal

pub returns : goal.returns
returns g c =
    let graph = c.args.graph.now in
    let b = g.T.Transducer.behaviour in
    let laws = g.met.T.Transducer.laws in
    let net = graph_network graph laws in
    record {
      rest = flow_never_stalls b laws (states_of graph) (edges_of graph) net;
      runs = flow_runs_to_end b laws (states_of graph) (edges_of graph) net;
    }
