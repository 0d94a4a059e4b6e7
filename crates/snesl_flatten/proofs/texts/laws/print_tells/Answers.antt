use Rattle.flow_networks.specs.Graphs.{states_of, edges_of}
use Rattle.snesl_flatten.proofs.OfTexts.Printing.{print_tells}
use Rattle.snesl_flatten.proofs.texts.laws.print_tells.Goals as goal

pub returns : goal.returns
returns c = let graph = c.args.graph.now in print_tells (states_of graph) (edges_of graph) c.graph_is_a_network.ensures.network
