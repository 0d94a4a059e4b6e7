use Rattle.flow_networks.specs.Places.{states_in}
use Rattle.flow_networks.proofs.Nets.{wired_net}
use Rattle.flow_networks.proofs.graph.GraphBuilder.build.Goals as goal

pub invariant_of-result : goal.invariant_of-result
invariant_of-result g c =
    let builder = c.args.self in
    let states = states_in builder.nodes.items in
    record {
      built = record {
        wired = wired_net g.T.Transducer.behaviour states builder.wiring.ports.items builder.wiring.edges.items builder.wiring.wired builder.kept c.requires;
        joined = c.requires;
        limits = record { kinds = builder.kept.kinds; few_nodes = builder.kept.few_nodes; few_edges = builder.kept.few_edges };
      };
      seated = builder.seated;
    }
