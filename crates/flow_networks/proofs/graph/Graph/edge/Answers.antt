use Rattle.std.proofs.Common.{◌∙◌}
use Rattle.std.proofs.lemmas.List.{get_or_default}
use Rattle.flow_networks.proofs.graph.Graph.edge.Goals as goal

pub returns : goal.returns
returns g c = c.index.ensures ∙ get_or_default c.args.self.now.edges.items c.args.number c.index.result.now _ c.requires
