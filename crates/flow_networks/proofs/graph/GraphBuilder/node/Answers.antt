use Rattle.std.proofs.Common.{◌≡◌, ◌<◌, ◌++◌, List, [], ◌∷◌, length, map, sym, ◌∙◌, ap, subst, arith}
use Rattle.std.proofs.lemmas.List.{length-map, map-append}
use Rattle.std.proofs.lemmas.List.Elements.{All-push}
use Rattle.flow_networks.specs.Limits.{most_nodes}
use Rattle.flow_networks.specs.declared.edge.Edge.{Edge}
use Rattle.flow_networks.specs.Tables.{ins, outs}
use Rattle.flow_networks.specs.Networks.{AreOpened}
use Rattle.flow_networks.specs.Places.{placed_state, states_in, AreSeated}
use Rattle.flow_networks.specs.Kept.{IsKept}
use Rattle.flow_networks.proofs.Kept.{kept_node, nodes_are, pushed}
use Rattle.flow_networks.proofs.Seats.{seated_node}
use Rattle.flow_networks.proofs.graph.GraphBuilder.node.Goals as goal

pub invariant_of-self-2 : goal.invariant_of-self-2
invariant_of-self-2 g c =
    let builder = c.args.self.now in
    let b = g.T.Transducer.behaviour in
    let nodes = builder.nodes.items in
    let states = states_in nodes in
    let ports = builder.wiring.ports.items in
    let edges : List Edge = builder.wiring.edges.items in
    let after = c.add_node.new.self.ports.items in
    let placed = c.in_ok-placed.placed in
    let s = g.T.Transducer.state placed.node in
    let same : placed.node ≡ c.args.node = c.in_ok-placed.ensures.node in
    let few : length states < most_nodes = omega (arith, builder.nodes.ok.0, length-map nodes placed_state) in
    let is = pushed c.push.result c.reserve.new.self.items c.push.new.self.items placed c.push.ensures.items
    (c.push.ensures.succeeds (omega (arith, c.in_ok-reserve.ensures.ok, c.reserve.ensures.len)))
    ∙ ap (λ l. l ++ placed ∷ []) c.reserve.ensures.items in
    let kept : IsKept b (states ++ s ∷ []) after edges = kept_node b states ports edges builder.kept builder.wiring.wired s after
    (c.in_ok-add_node.ensures.inputs ∙ ap (λ n. map length (ins ports) ++ n ∷ []) (c.inputs-inputs.ensures ∙ ap (λ x. b.inputs (g.T.Transducer.state x)) (sym same)))
    (c.in_ok-add_node.ensures.outputs ∙ ap (λ n. map length (outs ports) ++ n ∷ []) (c.outputs-outputs.ensures ∙ ap (λ x. b.outputs (g.T.Transducer.state x)) (sym same))) few in
    let even : length ports ≡ length nodes = nodes_are b states ports edges builder.kept ∙ length-map nodes placed_state in
    let seated : AreSeated (nodes ++ placed ∷ []) edges =
    seated_node nodes ports edges builder.wiring.wired even builder.seated placed
    (omega (arith, c.in_ok-placed.ensures.number, c.len-number.ensures, builder.nodes.ok.0)) in
    record {
      kept = subst (λ l. IsKept b l after c.add_node.new.self.edges.items) (sym (ap states_in is ∙ map-append placed_state nodes (placed ∷ [])))
          (subst (λ (l : List Edge). IsKept b (states ++ s ∷ []) after l) (sym c.add_node.ensures.edges) kept);
      seated = subst (λ l. AreSeated l c.add_node.new.self.edges.items) (sym is) (subst (λ (l : List Edge). AreSeated (nodes ++ placed ∷ []) l) (sym c.add_node.ensures.edges) seated);
    }

pub returns-clause-opened : goal.returns-clause-opened
returns-clause-opened g c opened =
    let b = g.T.Transducer.behaviour in
    let nodes = c.args.self.now.nodes.items in
    let placed = c.in_ok-placed.placed in
    let fresh : b.opening (g.T.Transducer.state placed.node) ≡ g.T.Transducer.state placed.node =
    subst (λ x. b.opening (g.T.Transducer.state x) ≡ g.T.Transducer.state x) (sym c.in_ok-placed.ensures.node) c.requires in
    let is = pushed c.push.result c.reserve.new.self.items c.push.new.self.items placed c.push.ensures.items
    (c.push.ensures.succeeds (omega (arith, c.in_ok-reserve.ensures.ok, c.reserve.ensures.len)))
    ∙ ap (λ l. l ++ placed ∷ []) c.reserve.ensures.items in
    subst (AreOpened b) (sym (ap states_in is ∙ map-append placed_state nodes (placed ∷ []))) (All-push (λ s. b.opening s ≡ s) (states_in nodes) (g.T.Transducer.state placed.node) opened fresh)
