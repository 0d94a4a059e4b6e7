use Rattle.std.proofs.Common.{◌≡◌, ◌<◌, length, map, sym, ◌∙◌, arith}
use Rattle.std.proofs.lemmas.List.{length-map}
use Rattle.flow_networks.specs.Places.{placed_state}
use Rattle.flow_networks.specs.Tables.{ins, outs, count_at}
use Rattle.flow_networks.specs.Networks.{inputs_at, outputs_at, kind_from, kind_to}
use Rattle.flow_networks.proofs.KindTests.{same_kind}
use Rattle.flow_networks.proofs.Kept.{count_inputs, count_outputs, read_kind}
use Rattle.flow_networks.proofs.graph.GraphBuilder.may_join.Goals as goal

pub returns : goal.returns
returns g c =
    let builder = c.args.self.now in
    let b = g.T.Transducer.behaviour in
    let nodes = builder.nodes.items in
    let states = map placed_state nodes in
    let ports = builder.wiring.ports.items in
    let edges = builder.wiring.edges.items in
    let edge = c.args.edge in
    let reader : edge.reader < length nodes = omega (arith, builder.nodes.ok.0) in
    let writer : edge.writer < length nodes = omega (arith, c.if-edge.false) in
    let output : count_at (outs ports) edge.writer ≡ outputs_at b states edge.writer = count_outputs b states ports edges builder.kept edge.writer in
    let input : count_at (ins ports) edge.reader ≡ inputs_at b states edge.reader = count_inputs b states ports edges builder.kept edge.reader in
    let from : c.kind_out.result ≡ kind_from b states edge.writer edge.writer_port = c.kind_out.ensures
    ∙ read_kind placed_state nodes edge.writer c.index.result.now (λ s. b.kind_out s edge.writer_port) writer c.index.ensures in
    let to : c.kind_in.result ≡ kind_to b states edge.reader edge.reader_port = c.kind_in.ensures
    ∙ read_kind placed_state nodes edge.reader c.index-2.result.now (λ s. b.kind_in s edge.reader_port) reader c.index-2.ensures in
    let test = same_kind c.kind_out.result c.kind_in.result c.eq.result c.eq.ensures in
    let free_out = c.is_free_output.ensures.0 (cc (c.if-not-is_free_output.false)) in
    let free_in = c.is_free_input.ensures.0 (cc (c.if-not-is_free_input.false)) in (
      λ t. record {
        forward = c.if-edge.false;
        node = omega (arith, length-map nodes placed_state);
        output = omega (arith, free_out.0);
        input = omega (arith, free_in.0);
        free_output = free_out.1;
        free_input = free_in.1;
        kinds = sym from ∙ test.0 t ∙ to;
      },
      λ may. test.1 (from ∙ may.kinds ∙ sym to),
    )
