use Rattle.std.proofs.Common.{◌≡◌, ◌<◌, List, [], ◌∷◌, ◌++◌, length, set, sym, ◌∙◌, ap, subst, arith, length-set}
use Rattle.std.proofs.lemmas.List.{length-map}
use Rattle.flow_networks.specs.Limits.{most_edges}
use Rattle.flow_networks.specs.declared.edge.Edge.{Edge}
use Rattle.flow_networks.specs.Tables.{IsWiring}
use Rattle.flow_networks.specs.Networks.{inputs_at}
use Rattle.flow_networks.specs.Places.{placed_state, states_in, AreSeated}
use Rattle.flow_networks.specs.Kept.{IsKept}
use Rattle.flow_networks.proofs.Kept.{kept_edge, nodes_are}
use Rattle.flow_networks.proofs.Reached.{states_kept}
use Rattle.flow_networks.proofs.Seats.{inputs_here, outputs_here, seated_edge}
use Rattle.flow_networks.proofs.graph.GraphBuilder.edge.Goals as goal

pub set_output-requires : goal.set_output-requires
set_output-requires g c =
    let nodes = c.args.self.now.nodes.items in
    let may = c.requires in
    omega (arith, may.output, outputs_here nodes c.args.edge.writer c.index_mut.result.now (omega (arith, may.forward, may.node, length-map nodes placed_state)) c.index_mut.ensures.value)

pub set_input-requires : goal.set_input-requires
set_input-requires g c =
    let b = g.T.Transducer.behaviour in
    let nodes = c.args.self.now.nodes.items in
    let edge = c.args.edge in
    let may = c.requires in
    let half = set nodes edge.writer c.set_output.new.self in
    let writer : edge.writer < length nodes = omega (arith, may.forward, may.node, length-map nodes placed_state) in
    let states : states_in half ≡ states_in nodes =
    states_kept placed_state nodes edge.writer c.index_mut.result.now c.set_output.new.self writer c.index_mut.ensures.value
    (ap g.T.Transducer.state c.set_output.ensures.node) in
    omega (
      arith,
      may.input,
      inputs_here half edge.reader c.index_mut-2.result.now (omega (arith, may.node, length-map nodes placed_state, length-set nodes edge.writer c.set_output.new.self)) c.index_mut-2.ensures.value,
      ap (λ l. inputs_at b l edge.reader) states,
    )

pub invariant_of-self-2 : goal.invariant_of-self-2
invariant_of-self-2 g c =
    let builder = c.args.self.now in
    let b = g.T.Transducer.behaviour in
    let nodes = builder.nodes.items in
    let states = states_in nodes in
    let ports = builder.wiring.ports.items in
    let edges : List Edge = builder.wiring.edges.items in
    let after = c.add_edge.new.self.ports.items in
    let edge : Edge = c.args.edge in
    let may = c.requires in
    let few : length edges < most_edges = omega (arith, builder.wiring.edges.ok.0) in
    let same = c.add_edge.ensures in
    let is : c.add_edge.new.self.edges.items ≡ edges ++ edge ∷ [] = c.in_ok-add_edge.ensures.ok in
    let w = c.index_mut.result.now in
    let w' = c.set_output.new.self in
    let r = c.index_mut-2.result.now in
    let r' = c.set_input.new.self in
    let half = set nodes edge.writer w' in
    let writer : edge.writer < length nodes = omega (arith, may.forward, may.node, length-map nodes placed_state) in
    let reader : edge.reader < length nodes = omega (arith, may.node, length-map nodes placed_state) in
    let one : states_in half ≡ states = states_kept placed_state nodes edge.writer w w' writer c.index_mut.ensures.value (ap g.T.Transducer.state c.set_output.ensures.node) in
    let both : states_in (set half edge.reader r') ≡ states =
    states_kept placed_state half edge.reader r r' (omega (arith, reader, length-set nodes edge.writer w')) c.index_mut-2.ensures.value
    (ap g.T.Transducer.state c.set_input.ensures.node) ∙ one in
    let even : length ports ≡ length nodes = nodes_are b states ports edges builder.kept ∙ length-map nodes placed_state in
    let count : c.len-number.result ≡ length edges = omega (arith, builder.wiring.edges.ok.0) in
    let seated : AreSeated (set half edge.reader r') (edges ++ edge ∷ []) =
    seated_edge nodes ports edges builder.wiring.wired even builder.seated after edge
    (subst (λ (l : List Edge). IsWiring after l) is c.add_edge.new.self.wired) w w' r r' reader may.forward
    c.index_mut.ensures.value c.set_output.ensures.number (c.set_output.ensures.outputs ∙ ap (set w.outputs.items edge.writer_port) count) c.set_output.ensures.inputs
    c.index_mut-2.ensures.value c.set_input.ensures.number (c.set_input.ensures.inputs ∙ ap (set r.inputs.items edge.reader_port) count) c.set_input.ensures.outputs
    (omega (arith, may.output, outputs_here nodes edge.writer w writer c.index_mut.ensures.value))
    (omega (arith, may.input, inputs_here half edge.reader r (omega (arith, reader, length-set nodes edge.writer w')) c.index_mut-2.ensures.value, ap (λ l. inputs_at b l edge.reader) one))
    may.free_output may.free_input in
    record {
      kept = subst (λ (l : List Edge). IsKept b (states_in (set half edge.reader r')) after l) (sym is)
          (subst (λ l. IsKept b l after (edges ++ edge ∷ [])) (sym both)
          (kept_edge b states ports edges builder.kept edge after may same.inputs same.outputs few));
      seated = subst (λ (l : List Edge). AreSeated (set half edge.reader r') l) (sym is) seated;
    }

pub returns-clause-nodes : goal.returns-clause-nodes
returns-clause-nodes g c =
    let nodes = c.args.self.now.nodes.items in
    let edge = c.args.edge in
    let may = c.requires in
    let w = c.index_mut.result.now in
    let w' = c.set_output.new.self in
    let half = set nodes edge.writer w' in
    let writer : edge.writer < length nodes = omega (arith, may.forward, may.node, length-map nodes placed_state) in
    states_kept placed_state half edge.reader c.index_mut-2.result.now c.set_input.new.self
    (omega (arith, may.node, length-map nodes placed_state, length-set nodes edge.writer w')) c.index_mut-2.ensures.value
    (ap g.T.Transducer.state c.set_input.ensures.node)
    ∙ states_kept placed_state nodes edge.writer w w' writer c.index_mut.ensures.value (ap g.T.Transducer.state c.set_output.ensures.node)
