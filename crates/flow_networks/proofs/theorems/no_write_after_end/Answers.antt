use Rattle.flow_networks.specs.Graphs.{states_of, edges_of}
use Rattle.flow_networks.specs.Networks.{configuration_of}
use Rattle.flow_networks.proofs.Nets.{graph_wired, graph_lawful}
use Rattle.flow_networks.proofs.Turns.{sound_open}
use Rattle.flow_networks.proofs.theorems.no_write_after_end.Goals as goal

pub returns : goal.returns
returns g c view sound k q inside wants =
    let graph = c.args.graph.now in
    let b = g.T.Transducer.behaviour in
    let laws = g.met.T.Transducer.laws in
    sound_open b laws (states_of graph) (edges_of graph)
    (graph_wired graph)
    (graph_lawful graph laws)
    k inside (configuration_of b (states_of graph) view) sound q wants
