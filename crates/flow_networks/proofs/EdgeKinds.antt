-- Edges that take what all nodes may put: those of a fresh table, and those of a graph that was left in shape.
use Rattle.std.proofs.Common.{◌≡◌, ℕ, ◌<◌, List, length, option_map, slice_get, Some, sym, ◌∙◌, ap, subst, arith}
use Rattle.std.proofs.lemmas.List.{get_or-map, length-map}
use Rattle.std.proofs.lemmas.Option.{slice_get-map, slice_get-get_or}
use Rattle.kahn.specs.Networks.{Network}
use Rattle.flow_messages.specs.declared.message.Kind.{Kind}
use Rattle.flow_messages.specs.Kinds.{TakesKind}
use Rattle.flow_messages.specs.Ends.{View}
use Rattle.flow_messages.specs.Tables.{IsFresh, HasKinds}
use Rattle.flow_base.specs.Transducers.{Behaviour, BehaviourLaws}
use Rattle.flow_base.specs.declared.transducer.Transducer.{Ghosts}
use Rattle.flow_networks.specs.declared.edge.Edge.{Edge}
use Rattle.flow_networks.specs.declared.graph.Graph.{Graph}
use Rattle.flow_networks.specs.EdgeKinds.{edge_kinds, graph_kinds, EdgesTakeAll}
use Rattle.flow_networks.specs.Edges.{edge_at, out_edge}
use Rattle.flow_networks.specs.Graphs.{states_of, edges_of}
use Rattle.flow_networks.specs.Networks.{state_at, outputs_at}
use Rattle.flow_networks.specs.Shapes.{IsSameNetwork, KeepsShape}

module _ {S : Type 0} (b : Behaviour S) where
  -- the kind of an edge that is there is that of its writer's port
  edge_kind : (states : List S) (edges : List Edge) (e : ℕ) → e < length edges
      → slice_get (edge_kinds b states edges) e ≡ Some (b.kind_out (state_at b states (edge_at edges e).writer) (edge_at edges e).writer_port)
  edge_kind states edges e there =
      let f : Edge → Kind = λ edge. b.kind_out (state_at b states edge.writer) edge.writer_port in
      slice_get-map f edges e
      ∙ ap (option_map f) (slice_get-get_or edges e (record { writer = 0; writer_port = 0; reader = 0; reader_port = 0 }) there)

  -- in the same network the output ports of a node have the kinds that they had
  same_kind_out : BehaviourLaws b → (states later : List S) (edges edges' : List Edge) → IsSameNetwork b states edges later edges' → (k q : ℕ) → k < length later
      → b.kind_out (state_at b later k) q ≡ b.kind_out (state_at b states k) q
  same_kind_out laws states later edges edges' same k q inside =
      let opened : b.opening (state_at b later k) ≡ b.opening (state_at b states k) =
      sym (get_or-map b.opening later k b.sample b.sample inside) ∙ ap (λ (net : Network S). net.opening k) same.network
      ∙ get_or-map b.opening states k b.sample b.sample (omega (arith, inside, same.nodes)) in
      sym (laws.same_kinds_out (state_at b later k) q) ∙ ap (λ s. b.kind_out s q) opened ∙ laws.same_kinds_out (state_at b states k) q

module _ {X : Type 0} {t : Ghosts X} where
  -- fresh edges by the kinds of a graph are as many as its own
  pub kinds_fresh : (graph : Graph X t) {kinds : List Kind} (v : View) → kinds ≡ graph_kinds graph → IsFresh (length kinds) v → IsFresh (length (edges_of graph)) v
  kinds_fresh graph v are fresh =
      subst (λ n. IsFresh n v)
      (ap length are ∙ length-map (edges_of graph) (λ edge. t.behaviour.kind_out (state_at t.behaviour (states_of graph) edge.writer) edge.writer_port)) fresh

  -- an edge that takes items of its writer's kind takes what the writer may put
  pub kinds_take : (graph : Graph X t) {kinds : List Kind} (v : View) → kinds ≡ graph_kinds graph → HasKinds kinds v → EdgesTakeAll graph v
  kinds_take graph v are has k inside q port =
      let b = t.behaviour in
      let states = states_of graph in
      let edges = edges_of graph in
      let e = out_edge edges k q in
      let there = graph.built.wired.out_edge k q inside port in
      let is : v.kind e ≡ Some (b.kind_out (state_at b states k) q) =
      has e ∙ ap (λ ks. slice_get ks e) are ∙ edge_kind b states edges e there.0
      ∙ ap (λ j. Some (b.kind_out (state_at b states j) (edge_at edges e).writer_port)) there.1
      ∙ ap (λ p. Some (b.kind_out (state_at b states k) p)) there.2 in
      subst (λ of. TakesKind of (b.kind_out (state_at b states k) q)) (sym is) (λ s fits. fits)

  module _ {Y : Type 0} (laws : BehaviourLaws t.behaviour) {Same : Y → Y → Type 0} {view : Y → View} {graph : Graph X t} {before : Y} {graph' : Graph X t} {after : Y} where
    -- where a graph was left in shape, its edges take what they took
    pub edges_take_still : KeepsShape Same view graph before graph' after → EdgesTakeAll graph (view before) → EdgesTakeAll graph' (view after)
    edges_take_still shape takes k inside q port =
        let b = t.behaviour in
        let states = states_of graph in
        let edges = edges_of graph in
        let net = shape.network in
        let was : q < outputs_at b states k = subst (λ (net : Network t.State). q < net.outputs k) net.network port in
        let same : (view after).kind (out_edge (edges_of graph') k q) ≡ (view before).kind (out_edge edges k q) =
        shape.ends.kinds (out_edge (edges_of graph') k q) ∙ ap (λ es. (view before).kind (out_edge es k q)) net.same_edges in
        let kind = same_kind_out b laws states (states_of graph') edges (edges_of graph') net k q inside in
        subst (λ of. TakesKind of (b.kind_out (state_at b (states_of graph') k) q)) (sym same)
        (subst (TakesKind ((view before).kind (out_edge edges k q))) (sym kind) (takes k (omega (arith, inside, net.nodes)) q was))
