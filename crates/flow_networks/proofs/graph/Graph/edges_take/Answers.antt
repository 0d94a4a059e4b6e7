use Rattle.std.proofs.Common.{◌<◌, length, refl, ap, ◌∙◌, arith}
use borrow.Author.Count.{below_more}
use Rattle.flow_messages.specs.Kinds.{TakesKind}
use Rattle.flow_networks.specs.Edges.{out_edge}
use Rattle.flow_networks.specs.Graphs.{states_of, edges_of}
use Rattle.flow_networks.specs.Networks.{outputs_at}
use Rattle.flow_networks.specs.Standing.{stand_at}
use Rattle.flow_networks.proofs.GraphNodes.{is_node, output_count}
use Rattle.flow_networks.proofs.NodeEnds.{edge_there, takes_there}
use Rattle.flow_networks.proofs.graph.Graph.edges_take.Goals as goal

pub takes-requires : goal.takes-requires
takes-requires g c =
    let x = c.index-placed.result.now in
    let q = c.loop-port.port in
    let at = is_node c.args.self.now c.args.node c.index-placed.result.now c.requires.inside c.index-placed.ensures in
    let low : q < length x.outputs.items = omega (arith, c.loop-port-test.true, c.len-port-end.ensures) in
    let port : q < outputs_at g.T.Transducer.behaviour (states_of c.args.self.now) c.args.node = omega (arith, low, output_count at) in
    ap (g.E.Ends.view c.args.ends.now).writes (edge_there at q c.index.result.now low c.index.ensures) ∙ c.requires.ends.writes q port

pub returns-then-not-takes : goal.returns-then-not-takes
returns-then-not-takes g c =
    let x = c.index-placed.result.now in
    let q = c.loop-port.port in
    let at = is_node c.args.self.now c.args.node c.index-placed.result.now c.requires.inside c.index-placed.ensures in
    let low : q < length x.outputs.items = omega (arith, c.loop-port-test.true, c.len-port-end.ensures) in
    let port : q < outputs_at g.T.Transducer.behaviour (states_of c.args.self.now) c.args.node = omega (arith, low, output_count at) in
    let here = takes_there at (g.E.Ends.view c.args.ends.now) q c.index.result.now c.kind_out.result c.takes.result low c.index.ensures c.kind_out.ensures c.takes.ensures in (
      λ t. absurd (cc),
      λ all. absurd (let t = here.1 (all q port) in cc),
    )

pub loop-port-preserved : goal.loop-port-preserved
loop-port-preserved g c q before =
    let graph = c.args.self.now in
    let view = g.E.Ends.view c.args.ends.now in
    let x = c.index-placed.result.now in
    let i = c.loop-port.port in
    let at = is_node c.args.self.now c.args.node c.index-placed.result.now c.requires.inside c.index-placed.ensures in
    let low : i < length x.outputs.items = omega (arith, c.loop-port-test.true, c.len-port-end.ensures) in
    let here = takes_there at view i c.index.result.now c.kind_out.result c.takes.result low c.index.ensures c.kind_out.ensures c.takes.ensures in
    below_more (λ j. TakesKind (view.kind (out_edge (edges_of graph) c.args.node j)) (g.T.Transducer.behaviour.kind_out (stand_at graph c.args.node) j)) i
    (λ j l. c.loop-port.invariant j l) (here.0 (cc)) q before

pub returns : goal.returns
returns g c =
    let at = is_node c.args.self.now c.args.node c.index-placed.result.now c.requires.inside c.index-placed.ensures in (
      λ _ q l. c.loop-port.invariant q (omega (arith, l, output_count at)),
      λ _. refl,
    )
