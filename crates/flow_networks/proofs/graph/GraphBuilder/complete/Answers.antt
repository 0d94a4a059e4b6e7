use Rattle.flow_networks.specs.Places.{states_in}
use Rattle.flow_networks.proofs.Kept.{full_is_joined, joined_is_full}
use Rattle.flow_networks.proofs.graph.GraphBuilder.complete.Goals as goal

pub returns : goal.returns
returns g c =
    let builder = c.args.self.now in
    let b = g.T.Transducer.behaviour in
    let states = states_in builder.nodes.items in
    let answer = c.is_complete.ensures in (
      λ t. full_is_joined b states builder.wiring.ports.items builder.wiring.edges.items builder.kept (answer.0 t),
      λ joined. answer.1 (joined_is_full b states builder.wiring.ports.items builder.wiring.edges.items builder.kept joined),
    )
