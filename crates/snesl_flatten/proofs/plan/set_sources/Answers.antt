use Rattle.std.proofs.Common.{◌≡◌, suc, [], ◌∷◌, ◌++◌, List, length, map, set, refl, sym, subst, ◌∙◌, ap, arith, length-append}
use Rattle.std.proofs.lemmas.List.{length-map, map-append}
use Rattle.std.proofs.lemmas.Option.{slice_get_within}
use Rattle.std.proofs.lemmas.Iterator.Adapters.{YieldsList-from_vec}
use Rattle.std.proofs.lemmas.Iterator.Consumers.{YieldsList-turn}
use Rattle.snesl_types.specs.Typed.{typed_inputs, typed_text, typed_tree}
use Rattle.flow_scalar.specs.SourceBehaviour.{source_opening}
use Rattle.flow_nodes.specs.StreamNodes.{a_source, node_behaviour}
use Rattle.flow_networks.specs.Graphs.{states_of, edges_of}
use Rattle.flow_networks.specs.Networks.{AreOpened}
use Rattle.flow_networks.specs.Replacements.{MayReplace}
use Rattle.flow_networks.specs.declared.edge.Edge.{Edge}
use Rattle.flow_nodes.specs.plans.Layouts.{places}
use Rattle.flow_base.specs.Columns.{Columns}
use Rattle.snesl_flatten.specs.Networks.{StreamNodeState}
use Rattle.snesl_flatten.specs.Unset.{unset_steps, AreButSources}
use Rattle.flow_nodes.specs.inputs.TextSources.{items_in}
use Rattle.snesl_flatten.specs.Sources.{all_kinds, cells_in, HasSources}
use Rattle.snesl_flatten.proofs.SetSources.{kind_next, fresh_next, place_is, next_within, may_set, next_has, others_stay}
use Rattle.snesl_flatten.proofs.plan.set_sources.Goals as goal

pub loop-source-init : goal.loop-source-init
loop-source-init c = record {
  step = refl;
  sources = c.requires.sources;
  edges = refl;
  others = record { nodes = refl; others = λ k not_source. refl };
}

pub index-requires : goal.index-requires
index-requires c =
    let typed = c.args.typed.now in
    let all = c.args.sources.items in
    let it = c.into_iter-source-iterator.ensures.into_iter_gives in
    let done = c.loop-source.yielded in
    let turn = YieldsList-turn (YieldsList-from_vec all it.0 (omega (arith, it.1, c.args.sources.ok.0))) done c.loop-source.source-iterator
    c.loop-source.yielded_by c.next.result c.next.new.self c.in-Some.source c.in-Some.is c.next.ensures.steps in
    let there = kind_next all (all_kinds (typed_inputs typed)) c.requires.kinds done c.in-Some.source turn in
    let within = next_within (typed_text typed) (typed_tree typed) (typed_inputs typed) (map cells_in done) (states_of c.loop-source.graph)
    (edges_of c.loop-source.graph) c.loop-source.invariant.sources _ there in
    omega (arith, within, length-map done cells_in, c.loop-source.invariant.step, c.args.places.now.ok.0, ap length c.requires.places)

pub replace-requires : goal.replace-requires
replace-requires c =
    let typed = c.args.typed.now in
    let all = c.args.sources.items in
    let it = c.into_iter-source-iterator.ensures.into_iter_gives in
    let done = c.loop-source.yielded in
    let columns = map cells_in done in
    let graph = c.loop-source.graph in
    let turn = YieldsList-turn (YieldsList-from_vec all it.0 (omega (arith, it.1, c.args.sources.ok.0))) done c.loop-source.source-iterator
    c.loop-source.yielded_by c.next.result c.next.new.self c.in-Some.source c.in-Some.is c.next.ensures.steps in
    let there = kind_next all (all_kinds (typed_inputs typed)) c.requires.kinds done c.in-Some.source turn in
    let has = c.loop-source.invariant.sources in
    let on : c.loop-source.step ≡ suc (length columns) = omega (arith, length-map done cells_in, c.loop-source.invariant.step) in
    let place = place_is c.args.places.now.items (places (unset_steps typed)) c.requires.places c.loop-source.step (suc (length columns)) c.index.result.now c.index.ensures on
    (next_within (typed_text typed) (typed_tree typed) (typed_inputs typed) columns (states_of graph) (edges_of graph) has _ there) in
    subst (λ s. MayReplace node_behaviour (states_of graph) c.index.result.now (a_source, s)) (sym (fresh_next all c.requires.fresh done c.in-Some.source turn))
    (may_set (typed_text typed) (typed_tree typed) (typed_inputs typed) columns (states_of graph) (edges_of graph) has c.source_is_set.ensures
    c.openings_perform.ensures (items_in c.in-Some.source) there c.index.result.now place)

pub loop-source-preserved : goal.loop-source-preserved
loop-source-preserved c =
    let typed = c.args.typed.now in
    let all = c.args.sources.items in
    let it = c.into_iter-source-iterator.ensures.into_iter_gives in
    let done = c.loop-source.yielded in
    let s = c.in-Some.source in
    let columns = map cells_in done in
    let graph = c.loop-source.graph in
    let states = states_of graph in
    let k = c.index.result.now in
    let turn = YieldsList-turn (YieldsList-from_vec all it.0 (omega (arith, it.1, c.args.sources.ok.0))) done c.loop-source.source-iterator
    c.loop-source.yielded_by c.next.result c.next.new.self s c.in-Some.is c.next.ensures.steps in
    let there = kind_next all (all_kinds (typed_inputs typed)) c.requires.kinds done s turn in
    let has = c.loop-source.invariant.sources in
    let on : c.loop-source.step ≡ suc (length columns) = omega (arith, length-map done cells_in, c.loop-source.invariant.step) in
    let place = place_is c.args.places.now.items (places (unset_steps typed)) c.requires.places c.loop-source.step (suc (length columns)) k c.index.ensures on
    (next_within (typed_text typed) (typed_tree typed) (typed_inputs typed) columns states (edges_of graph) has _ there) in
    let is = c.replace.ensures.nodes ∙ ap (λ x. set states k (a_source, x)) (fresh_next all c.requires.fresh done s turn) in
    let set_has = next_has (typed_text typed) (typed_tree typed) (typed_inputs typed) columns states (edges_of graph) has c.source_is_set.ensures c.openings_perform.ensures (items_in s) there k place
    (subst (AreOpened node_behaviour) is (c.replace.ensures.opened has.opened)) in
    record {
      step = omega (arith, c.loop-source.invariant.step, length-append done (s ∷ []));
      sources =
          subst (λ (l : Columns). HasSources (typed_text typed) (typed_tree typed) (typed_inputs typed) l (states_of c.replace.new.self)
          (edges_of c.replace.new.self)) (sym (map-append cells_in done (s ∷ [])))
          (subst (λ (l : List StreamNodeState). HasSources (typed_text typed) (typed_tree typed) (typed_inputs typed) (columns ++ cells_in s ∷ []) l (edges_of c.replace.new.self)) (sym is)
          (subst (λ (l : List Edge). HasSources (typed_text typed) (typed_tree typed) (typed_inputs typed) (columns ++ cells_in s ∷ [])
          (set states k (a_source, source_opening (items_in s))) l) (sym c.replace.ensures.edges) set_has));
      edges = c.replace.ensures.edges ∙ c.loop-source.invariant.edges;
      others =
          subst (AreButSources typed (states_of c.args.graph.now)) (sym is)
          (others_stay typed (states_of c.args.graph.now) states (length columns) k (a_source, source_opening (items_in s)) c.loop-source.invariant.others
          (slice_get_within (all_kinds (typed_inputs typed)) (length columns) _ there) place);
    }
