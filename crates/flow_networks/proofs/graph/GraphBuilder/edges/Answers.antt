use Rattle.std.proofs.Common.{arith}
use Rattle.flow_networks.proofs.graph.GraphBuilder.edges.Goals as goal

pub returns : goal.returns
returns g c = omega (arith, c.len.ensures, c.args.self.now.wiring.edges.ok.0)
