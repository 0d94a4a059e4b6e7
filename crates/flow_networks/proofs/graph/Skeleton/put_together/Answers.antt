use Rattle.std.proofs.Common.{refl}
use Rattle.flow_networks.specs.Skeletons.{edges_in}
use Rattle.flow_networks.specs.Places.{states_in}
use Rattle.flow_networks.proofs.Reached.{same_length, same_network}
use Rattle.flow_networks.proofs.graph.Skeleton.put_together.Goals as goal

pub returns-clause-network : goal.returns-clause-network
returns-clause-network g c states opened =
    let b = g.T.Transducer.behaviour in
    let laws = g.met.T.Transducer.laws in
    let states' = states_in c.args.nodes.items in
    let edges = edges_in c.args.self in
    record {
      nodes = same_length b laws states states' opened;
      same_edges = refl;
      network = same_network b laws states states' opened edges edges refl;
    }
