use Rattle.std.proofs.Common.{arith}
use Rattle.flow_networks.proofs.GraphNodes.{is_node, wanted_in, wanted_in_port, wanted_in_edge}
use Rattle.flow_networks.proofs.graph.Graph.wanted_input.Goals as goal

pub index-requires-2 : goal.index-requires-2
index-requires-2 g c =
    let x = c.index.result.now in
    let at = is_node c.args.self.now c.args.node x c.requires.inside c.index.ensures in
    omega (arith, wanted_in at g.met.T.Transducer.laws c.args.port c.requires.wants, x.inputs.ok.0)

pub returns-clause-port : goal.returns-clause-port
returns-clause-port g c =
    let at = is_node c.args.self.now c.args.node c.index.result.now c.requires.inside c.index.ensures in
    wanted_in_port at g.met.T.Transducer.laws c.args.port c.requires.wants

pub returns-clause-edge : goal.returns-clause-edge
returns-clause-edge g c =
    let at = is_node c.args.self.now c.args.node c.index.result.now c.requires.inside c.index.ensures in
    wanted_in_edge at g.met.T.Transducer.laws c.args.port c.requires.wants c.index-2.result.now c.index-2.ensures
