use Rattle.std.proofs.Common.{◌≡◌, true, ◌∙◌, ap, subst, arith}
use Rattle.flow_messages.specs.Kinds.{fits}
use Rattle.flow_base.proofs.Reached.{written_fits}
use Rattle.flow_networks.specs.Places.{placed_state}
use Rattle.flow_networks.proofs.GraphNodes.{is_node, stands, wanted_out, wanted_out_port, wanted_out_edge}
use Rattle.flow_networks.proofs.graph.Graph.wanted_output.Goals as goal

pub index-requires-2 : goal.index-requires-2
index-requires-2 g c =
    let x = c.index.result.now in
    let at = is_node c.args.self.now c.args.node x c.requires.inside c.index.ensures in
    omega (arith, wanted_out at g.met.T.Transducer.laws c.args.port c.requires.wants, x.outputs.ok.0)

pub returns-clause-port : goal.returns-clause-port
returns-clause-port g c =
    let at = is_node c.args.self.now c.args.node c.index.result.now c.requires.inside c.index.ensures in
    wanted_out_port at g.met.T.Transducer.laws c.args.port c.requires.wants

pub returns-clause-fits : goal.returns-clause-fits
returns-clause-fits g c =
    let b = g.T.Transducer.behaviour in
    let x = c.index.result.now in
    let here = stands (is_node c.args.self.now c.args.node x c.requires.inside c.index.ensures) in
    subst (λ s. fits (b.kind_out s c.args.port) (b.process.written s) ≡ true) here
    (written_fits b g.met.T.Transducer.laws (placed_state x) c.args.port (ap b.process.want here ∙ c.requires.wants) x.reached)

pub returns-clause-edge : goal.returns-clause-edge
returns-clause-edge g c =
    let at = is_node c.args.self.now c.args.node c.index.result.now c.requires.inside c.index.ensures in
    wanted_out_edge at g.met.T.Transducer.laws c.args.port c.requires.wants c.index-2.result.now c.index-2.ensures
