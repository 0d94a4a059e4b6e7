use Rattle.std.proofs.Common.{arith}
use Rattle.std.proofs.lemmas.List.{length-map}
use Rattle.flow_networks.specs.Places.{placed_state}
use Rattle.flow_networks.proofs.graph.Graph.nodes.Goals as goal

pub returns : goal.returns
returns g c = omega (arith, c.len.ensures, c.args.self.now.nodes.ok.0, length-map c.args.self.now.nodes.items placed_state)
