use Rattle.flow_networks.proofs.Nets.{graph_network}
use Rattle.flow_networks.proofs.theorems.graph_is_a_network.Goals as goal

pub returns : goal.returns
returns g c =
    let graph = c.args.graph.now in
    record {
      network = graph_network graph g.met.T.Transducer.laws;
      limits = graph.built.limits;
    }
