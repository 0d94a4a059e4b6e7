use Rattle.flow_networks.specs.Graphs.{states_of, edges_of}
use Rattle.flow_networks.proofs.Nets.{opens}
use Rattle.flow_networks.proofs.theorems.graph_opens.Goals as goal

pub returns : goal.returns
returns g c view = opens g.T.Transducer.behaviour (states_of c.args.graph.now) (edges_of c.args.graph.now) view
