-- What every graph keeps: with a node or an edge more, and after a step.
use Rattle.std.proofs.Common.{◌≡◌, ℕ, ◌<◌, List, [], ◌∷◌, ◌++◌, length, get_or, map, Result, Ok, Err, IsOk, is_ok, if◌then◌else◌, ◌⊎◌, inl, inr, sym, ◌∙◌, ap, subst, arith}
use Rattle.std.proofs.lemmas.Bool.{cases_eq}
use Rattle.std.proofs.lemmas.List.{get_or-map, get_or_append_left, get_or_push, length_push, length-map, map-append}
use Rattle.flow_messages.specs.declared.message.Kind.{Kind}
use Rattle.flow_messages.specs.declared.message.Kind.TheVariants.{Unit as UnitKind}
use Rattle.flow_base.specs.Transducers.{Behaviour}
use Rattle.flow_networks.specs.Limits.{most_nodes, most_edges}
use Rattle.flow_networks.specs.declared.edge.Edge.{Edge}
use Rattle.flow_networks.specs.declared.wiring.Ports.{Ports}
use Rattle.flow_networks.specs.Edges.{edge_at}
use Rattle.flow_networks.specs.Tables.{ins, outs, row_at, count_at, IsWiring, IsFull}
use Rattle.flow_networks.specs.Networks.{inputs_at, outputs_at, kind_from, kind_to, MayJoin, IsJoined}
use Rattle.flow_networks.specs.Kept.{IsKept}
use Rattle.flow_networks.proofs.Tables.{row_inside, node_inside}

-- the items at both ends of the edge are of one kind
abbrev HasOneKind : {S : Type 0} → Behaviour S → List S → Edge → Type 0
HasOneKind b states edge = kind_from b states edge.writer edge.writer_port ≡ kind_to b states edge.reader edge.reader_port

-- what a node says of the kinds at its ports
pub read_kind : {S T : Type 0} (state : T → S) (nodes : List T) (k : ℕ) (x : T) (f : S → Kind) → k < length nodes → x ≡ get_or nodes k x → f (state x) ≡ get_or (map f (map state nodes)) k UnitKind
read_kind state nodes k x f l is =
    ap (λ y. f (state y)) is ∙ ap f (sym (get_or-map state nodes k x (state x) l)) ∙ sym (get_or-map f (map state nodes) k (state x) UnitKind (omega (arith, length-map nodes state)))

-- a vector after a push for which there was room
pub pushed : {X E : Type 0} (r : Result X E) {Y : Type 0} (before after : List Y) (y : Y) → after ≡ (if is_ok r then before ++ y ∷ [] else before) → IsOk r → after ≡ before ++ y ∷ []
pushed (Ok x) before after y is ok = is
pushed (Err e) before after y is ok = absurd (cc)

module _ {S : Type 0} (b : Behaviour S) (states : List S) (ports : List Ports) (edges : List Edge) (kept : IsKept b states ports edges) where
  pub count_inputs : (k : ℕ) → count_at (ins ports) k ≡ inputs_at b states k
  count_inputs k = ap (λ (l : List ℕ). get_or l k 0) kept.inputs

  pub count_outputs : (k : ℕ) → count_at (outs ports) k ≡ outputs_at b states k
  count_outputs k = ap (λ (l : List ℕ). get_or l k 0) kept.outputs

  -- as many nodes as the tables have
  pub nodes_are : length ports ≡ length states
  nodes_are = sym (length-map ports (λ n. n.inputs.items)) ∙ sym (length-map (ins ports) length) ∙ ap length kept.inputs ∙ length-map states b.inputs

  pub full_is_joined : IsFull ports edges → IsJoined b states edges
  full_is_joined full = record {
    inputs = λ k p h. full.inputs k p (omega (arith, count_inputs k));
    outputs = λ k q h. full.outputs k q (omega (arith, count_outputs k));
  }

  pub joined_is_full : IsJoined b states edges → IsFull ports edges
  joined_is_full joined = record {
    inputs = λ k p h. joined.inputs k p (omega (arith, count_inputs k));
    outputs = λ k q h. joined.outputs k q (omega (arith, count_outputs k));
  }

  -- the nodes at the ends of an edge are there
  pub reader_there : IsWiring ports edges → (e : ℕ) → e < length edges → (edge_at edges e).reader < length states
  reader_there wired e l =
      let edge = edge_at edges e in
      let port : edge.reader_port < length (row_at (ins ports) edge.reader) = row_inside (ins ports) edge.reader edge.reader_port e (wired.ins.stands e l) in
      omega (arith, node_inside (ins ports) edge.reader edge.reader_port port, length-map ports (λ (n : Ports). n.inputs.items), nodes_are)

  pub kept_node : IsWiring ports edges → (s : S) (after : List Ports) → map length (ins after) ≡ map length (ins ports) ++ b.inputs s ∷ [] →
      map length (outs after) ≡ map length (outs ports) ++ b.outputs s ∷ [] → length states < most_nodes → IsKept b (states ++ s ∷ []) after edges
  kept_node wired s after i o few = record {
    inputs = i ∙ ap (λ (l : List ℕ). l ++ b.inputs s ∷ []) kept.inputs ∙ sym (map-append b.inputs states (s ∷ []));
    outputs = o ∙ ap (λ (l : List ℕ). l ++ b.outputs s ∷ []) kept.outputs ∙ sym (map-append b.outputs states (s ∷ []));
    kinds = λ e l.
        let reader : (edge_at edges e).reader < length states = reader_there wired e l in
        kind_more (λ x. b.kind_out x (edge_at edges e).writer_port) (edge_at edges e).writer (omega (arith, wired.forward e l))
        ∙ kept.kinds e l ∙ sym (kind_more (λ x. b.kind_in x (edge_at edges e).reader_port) (edge_at edges e).reader reader);
    few_nodes = omega (arith, length_push states s);
    few_edges = kept.few_edges;
  }
    where
      kind_more : (f : S → Kind) (k : ℕ) → k < length states → get_or (map f (states ++ s ∷ [])) k UnitKind ≡ get_or (map f states) k UnitKind
      kind_more f k l =
          ap (λ (ks : List Kind). get_or ks k UnitKind) (map-append f states (s ∷ []))
          ∙ get_or_append_left (map f states) (f s ∷ []) UnitKind k (omega (arith, length-map states f))

  pub kept_edge : (x : Edge) (after : List Ports) → MayJoin b states edges x → map length (ins after) ≡ map length (ins ports) →
      map length (outs after) ≡ map length (outs ports) → length edges < most_edges → IsKept b states after (edges ++ x ∷ [])
  kept_edge x after may i o few = record {
    inputs = i ∙ kept.inputs;
    outputs = o ∙ kept.outputs;
    kinds = λ e l. go e l (cases_eq e (length edges));
    few_nodes = kept.few_nodes;
    few_edges = omega (arith, length_push edges x);
  }
    where
      go : (e : ℕ) → e < length (edges ++ x ∷ []) → ((e ≡ length edges) ⊎ (e ≡ length edges → ⊥)) → HasOneKind b states (edge_at (edges ++ x ∷ []) e)
      go e l (inl h) = subst (HasOneKind b states) (sym (get_or_push edges x _ e (sym h))) may.kinds
      go e l (inr ne) =
          let old : e < length edges = omega (arith, length_push edges x) in
          subst (HasOneKind b states) (sym (get_or_append_left edges (x ∷ []) _ e old)) (kept.kinds e old)
