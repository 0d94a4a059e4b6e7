-- The nodes that were dealt out to a share, and its fresh ends, make a share.
use Rattle.std.proofs.Common.{◌≡◌, ℕ, ◌<◌, ◌≤◌, true, List, [], ◌∷◌, length, map, get_or, ◌⊎◌, inl, inr, sym, ◌∙◌, ap, subst, arith}
use Rattle.std.proofs.lemmas.Bool.{cases_lt}
use Rattle.std.proofs.lemmas.List.{get_or-map, get_or_default, get_or_past, length-map}
use Rattle.flow_messages.specs.declared.message.Kind.{Kind}
use Rattle.flow_messages.specs.declared.message.Kind.TheVariants.{Unit as UnitKind}
use Rattle.flow_messages.specs.Kinds.{TakesKind}
use Rattle.flow_messages.specs.Ends.{View}
use Rattle.flow_base.specs.declared.transducer.Transducer.{Ghosts}
use Rattle.flow_networks.specs.declared.edge.Edge.{Edge}
use Rattle.flow_networks.specs.declared.placed.Placed.{Placed}
use Rattle.flow_networks.specs.Edges.{edge_at, in_edge, out_edge}
use Rattle.flow_networks.specs.Networks.{AreOpened, state_at, inputs_at, outputs_at}
use Rattle.flow_networks.specs.Places.{placed_state, states_in}
use Rattle.flow_networks.specs.Skeletons.{FitTogether}
use Rattle.flow_networks.specs.EdgeKinds.{edge_kinds, kind_at}
use Rattle.flow_networks.proofs.Seats.{state_here, inputs_here, outputs_here, input_here, output_here}
use Rattle.flow_shares.specs.declared.meetings.owners.EdgeOwners.{EdgeOwners}
use Rattle.flow_shares.specs.Deals.{share_of, node_at, AreJustDealt}
use Rattle.flow_shares.specs.Shares.{row_of, StandOnce, HasItsEnds, HasHistory}
use Rattle.flow_shares.specs.meetings.Open.{AreOwners, HasFreshEnds}
use Rattle.flow_shares.specs.meetings.Deals.{MakeAShare}
use Rattle.flow_shares.proofs.OfMeetings.More.{writes_there, reads_there}

-- rows of numbers, each of which is that of one row and one place, stand once
rows_apart : {A : Type 0} (row : A → List ℕ) (of port : ℕ → ℕ) (name : A → ℕ) (xs : List A)
    → ((i p : ℕ) (d : A) → i < length xs → p < length (row (get_or xs i d)) → let e = get_or (row (get_or xs i d)) p 0 in (of e ≡ name (get_or xs i d)) × (port e ≡ p))
    → ((i j : ℕ) (d : A) → i < length xs → j < length xs → name (get_or xs i d) ≡ name (get_or xs j d) → i ≡ j)
    → StandOnce (map row xs)
rows_apart row of port name [] at one k j p q l m same = absurd (omega (arith, l))
rows_apart {A} row of port name (x ∷ xs) at one k j p q l m same =
    let k_in = there k p l in
    let j_in = there j q m in
    let k_row = get_or-map row (x ∷ xs) k x [] k_in in
    let j_row = get_or-map row (x ∷ xs) j x [] j_in in
    let k_at = at k p x k_in (omega (arith, l, ap length k_row)) in
    let j_at = at j q x j_in (omega (arith, m, ap length j_row)) in
    let equal : get_or (row (get_or (x ∷ xs) k x)) p 0 ≡ get_or (row (get_or (x ∷ xs) j x)) q 0 = sym (ap (λ (r : List ℕ). get_or r p 0) k_row) ∙ same ∙ ap (λ (r : List ℕ). get_or r q 0) j_row in
    (one k j x k_in j_in (sym k_at.0 ∙ ap of equal ∙ j_at.0), sym k_at.1 ∙ ap port equal ∙ j_at.1)
  where
    there : (i r : ℕ) → r < length (row_of (map row (x ∷ xs)) i) → i < length (x ∷ xs)
    there i r inside = go (cases_lt i (length (x ∷ xs)))
      where
        go : (i < length (x ∷ xs)) ⊎ (length (x ∷ xs) ≤ i) → i < length (x ∷ xs)
        go (inl low) = low
        go (inr past) = absurd (omega (arith, inside, ap length (get_or_past (map row (x ∷ xs)) i [] (omega (arith, past, length-map (x ∷ xs) row)))))

module _ {X : Type 0} {t : Ghosts X} (share : List ℕ) (edges : List Edge) (nodes : List (Placed X t)) (fit : FitTogether nodes edges)
    (opened : AreOpened t.behaviour (states_in nodes)) (owners : List EdgeOwners) (are : AreOwners share edges owners)
    (dealt : List (List (Placed X t))) (just : AreJustDealt share nodes dealt) (capacity s : ℕ) (there : s < length dealt) (v : View)
    (fresh : HasFreshEnds owners (edge_kinds t.behaviour (states_in nodes) edges) capacity s v) where
  abbrev kinds : List Kind
  kinds = edge_kinds t.behaviour (states_in nodes) edges

  abbrev mine : List (Placed X t)
  mine = get_or dealt s []

  -- the node at place i of the share
  module _ (i : ℕ) (d : Placed X t) (inside : i < length mine) where
    abbrev x : Placed X t
    x = get_or mine i d

    abbrev k : ℕ
    k = x.number

    low : k < length nodes
    low = (just.back s i d there inside).0

    in_share : share_of share k ≡ s
    in_share = (just.back s i d there inside).1

    is : x ≡ get_or nodes k x
    is = sym (
        get_or_default nodes k x d low ∙ just.here k d low
        ∙ ap (λ r. node_at dealt r (just.place k) d) in_share ∙ ap (λ j. node_at dealt s j d) (just.back s i d there inside).2
        )

    states_low : k < length (states_in nodes)
    states_low = omega (arith, low, length-map nodes placed_state)

    -- it is in its opening state
    is_opened : t.behaviour.opening (placed_state x) ≡ placed_state x
    is_opened = subst (λ state. t.behaviour.opening state ≡ state) (sym (state_here nodes k x low is)) (opened k t.behaviour.sample states_low)

    module _ (p : ℕ) (within : p < length x.inputs.items) where
      in_port : p < inputs_at t.behaviour (states_in nodes) k
      in_port = omega (arith, within, inputs_here nodes k x low is)

      -- the edge at its input port p comes to it, and its reader's end is there
      input_is : get_or x.inputs.items p 0 ≡ in_edge edges k p
      input_is = input_here nodes k x low is edges fit.built.joined fit.seated p in_port

      input_at : let e = get_or x.inputs.items p 0 in (e < length edges) × ((edge_at edges e).reader ≡ k) × ((edge_at edges e).reader_port ≡ p)
      input_at = subst (λ e. (e < length edges) × ((edge_at edges e).reader ≡ k) × ((edge_at edges e).reader_port ≡ p)) (sym input_is) (fit.built.wired.in_edge k p states_low in_port)

      reads_here : v.reads (get_or x.inputs.items p 0) ≡ true
      reads_here =
          let e = get_or x.inputs.items p 0 in
          let none : EdgeOwners = record { writer = 0; reader = 0 } in
          reads_there owners kinds capacity s e none v fresh (omega (arith, input_at.0, are.count)) (are.readers e none input_at.0 ∙ ap (share_of share) input_at.1 ∙ in_share)

    module _ (q : ℕ) (within : q < length x.outputs.items) where
      out_port : q < outputs_at t.behaviour (states_in nodes) k
      out_port = omega (arith, within, outputs_here nodes k x low is)

      -- the edge at its output port q comes from it, and its writer's end is there
      output_is : get_or x.outputs.items q 0 ≡ out_edge edges k q
      output_is = output_here nodes k x low is edges fit.built.joined fit.seated q out_port

      output_at : let e = get_or x.outputs.items q 0 in (e < length edges) × ((edge_at edges e).writer ≡ k) × ((edge_at edges e).writer_port ≡ q)
      output_at = subst (λ e. (e < length edges) × ((edge_at edges e).writer ≡ k) × ((edge_at edges e).writer_port ≡ q)) (sym output_is) (fit.built.wired.out_edge k q states_low out_port)

      writes_here : v.writes (get_or x.outputs.items q 0) ≡ true
      writes_here =
          let e = get_or x.outputs.items q 0 in
          let none : EdgeOwners = record { writer = 0; reader = 0 } in
          writes_there owners kinds capacity s e none v fresh (omega (arith, output_at.0, are.count)) (are.writers e none output_at.0 ∙ ap (share_of share) output_at.1 ∙ in_share)

      -- which takes all items of the port's kind
      kind_is : kind_at kinds (get_or x.outputs.items q 0) ≡ t.behaviour.kind_out (t.behaviour.opening (placed_state x)) q
      kind_is =
          let e = get_or x.outputs.items q 0 in
          get_or-map (λ (edge : Edge). t.behaviour.kind_out (state_at t.behaviour (states_in nodes) edge.writer) edge.writer_port) edges e
          (record { writer = 0; writer_port = 0; reader = 0; reader_port = 0 }) UnitKind output_at.0
          ∙ ap (λ j. t.behaviour.kind_out (state_at t.behaviour (states_in nodes) j) (edge_at edges e).writer_port) output_at.1
          ∙ ap (t.behaviour.kind_out (state_at t.behaviour (states_in nodes) k)) output_at.2
          ∙ ap (λ state. t.behaviour.kind_out state q) (sym (state_here nodes k x low is) ∙ sym is_opened)

      takes_here : TakesKind (v.kind (get_or x.outputs.items q 0)) (t.behaviour.kind_out (t.behaviour.opening (placed_state x)) q)
      takes_here = subst (TakesKind (v.kind (get_or x.outputs.items q 0))) kind_is (fresh.kind (get_or x.outputs.items q 0) writes_here)

    has_ends : HasItsEnds v x
    has_ends = record {
      reads = λ p e l. ap v.reads (get_or_default x.inputs.items p e 0 l) ∙ reads_here p l;
      writes = λ q e l. ap v.writes (get_or_default x.outputs.items q e 0 l) ∙ writes_here q l;
      kinds = takes_here;
    }

    has_history : HasHistory v x
    has_history = record {
      history = [];
      does = is_opened;
      received = λ p l. fresh.received (get_or x.inputs.items p 0) (reads_here p l);
      sent = λ q l. fresh.sent (get_or x.outputs.items q 0) (writes_here q l);
    }

  -- no two places have nodes of one number
  one_place : (i j : ℕ) (d : Placed X t) → i < length mine → j < length mine → (get_or mine i d).number ≡ (get_or mine j d).number → i ≡ j
  one_place i j d li lj same = sym (just.back s i d there li).2 ∙ ap just.place same ∙ (just.back s j d there lj).2

  pub make_a_share : MakeAShare v mine
  make_a_share = record {
    there = λ i d l. has_ends i d l;
    apart = record {
      inputs = rows_apart (λ (n : Placed X t). n.inputs.items) (λ e. (edge_at edges e).reader) (λ e. (edge_at edges e).reader_port) (λ n. n.number) mine
          (λ i p d l m. (let a = input_at i d l p m in (a.1, a.2))) one_place;
      outputs = rows_apart (λ (n : Placed X t). n.outputs.items) (λ e. (edge_at edges e).writer) (λ e. (edge_at edges e).writer_port) (λ n. n.number) mine
          (λ i q d l m. (let a = output_at i d l q m in (a.1, a.2))) one_place;
    };
    own = λ i d l. ∣ has_history i d l ∣₁;
  }
