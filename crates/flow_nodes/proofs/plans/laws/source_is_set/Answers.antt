use Rattle.flow_networks.specs.Graphs.{states_of, edges_of}
use Rattle.flow_nodes.proofs.OfPlans.Sources.{source_is_set}
use Rattle.flow_nodes.proofs.plans.laws.source_is_set.Goals as goal

pub returns : goal.returns
returns g c = source_is_set g.T.Transducer.behaviour (states_of c.args.graph.now) (edges_of c.args.graph.now)
