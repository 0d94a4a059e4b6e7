-- Nodes in their places: one of them later, one more of them, and one edge more at them.
use Rattle.std.proofs.Common.{◌≡◌, ℕ, ◌<◌, ◌≤◌, true, List, [], ◌∷◌, ◌++◌, length, get_or, set, map, ◌⊎◌, inl, inr, Option, Some, refl, sym, ◌∙◌, ap, subst, arith, get_or-set_same, get_or-set_other}
use Rattle.std.specs.List.{All, position_or_len}
use Rattle.std.proofs.lemmas.Bool.{cases_eq, cases_lt}
use Rattle.std.proofs.lemmas.List.{get_or-map, map-set, set-get_or, length-map, length-set, map-append, get_or_append_left, get_or_push, length_push}
use Rattle.kahn.specs.declared.want.Want.{Want}
use Rattle.kahn.specs.declared.want.Want.TheVariants.{Read, Write}
use Rattle.flow_base.specs.Transducers.{BehaviourLaws}
use Rattle.flow_base.specs.declared.transducer.Transducer.{Ghosts}
use Rattle.flow_base.specs.Visits.{IsPlaced}
use Rattle.flow_messages.specs.Ends.{View}
use Rattle.flow_networks.specs.InPlace.{PlaceTakesKinds}
use Rattle.flow_networks.specs.declared.edge.Edge.{Edge}
use Rattle.flow_networks.specs.declared.placed.Placed.{Placed}
use Rattle.flow_networks.specs.Edges.{edge_at, in_edge, out_edge}
use Rattle.flow_networks.specs.declared.wiring.Ports.{Ports}
use Rattle.flow_networks.specs.Tables.{ins, outs, entry_at, IsTableOf, IsWiring}
use Rattle.flow_networks.specs.Networks.{state_at, inputs_at, outputs_at, IsJoined}
use Rattle.flow_networks.specs.Places.{number_at, placed_state, states_in, numbers_in, inputs_in, outputs_in, AreSeated, IsSamePlace}
use Rattle.flow_networks.specs.Kept.{IsBuilt}
use Rattle.flow_networks.proofs.Tables.{at_port, entry_is, number_is, node_inside, row_inside}
use Rattle.flow_networks.proofs.Wirings.{map_set_back, input_side, output_side}
use Rattle.flow_networks.proofs.Reached.{state_read, built_openings, wants_input, wants_output}

-- a port that it wants has its edge
module _ {X : Type 0} {t : Ghosts X} (laws : BehaviourLaws t.behaviour) (x : Placed X t) (p : ℕ) {w : Want} (told : w ≡ t.behaviour.process.want (placed_state x)) where
  pub input_inside : w ≡ Read p → p < length x.inputs.items
  input_inside is = subst (λ n. p < n) (sym x.each_input) (wants_input t.behaviour laws (placed_state x) p (sym told ∙ is) x.reached)

  pub output_inside : w ≡ Write p → p < length x.outputs.items
  output_inside is = subst (λ n. p < n) (sym x.each_output) (wants_output t.behaviour laws (placed_state x) p (sym told ∙ is) x.reached)

-- the ends are there of the edges at its ports, as the code lists them
pub is_placed : {X : Type 0} {t : Ghosts X} (x : Placed X t) {v : View} → All (λ e. v.reads e ≡ true) x.inputs.items → All (λ e. v.writes e ≡ true) x.outputs.items →
    PlaceTakesKinds x v → {inputs outputs : List ℕ} → inputs ≡ x.inputs.items → outputs ≡ x.outputs.items → IsPlaced t.behaviour inputs outputs (placed_state x) v
is_placed {t = t} x {v} reads writes kinds {inputs} {outputs} ins outs =
    subst (λ l. IsPlaced t.behaviour l outputs (placed_state x) v) (sym ins)
    (subst (λ l. IsPlaced t.behaviour x.inputs.items l (placed_state x) v) (sym outs)
    (record { reached = x.reached; each_input = x.each_input; each_output = x.each_output; reads = reads; writes = writes; kinds = kinds }))

module _ {X : Type 0} {t : Ghosts X} (nodes : List (Placed X t)) (k : ℕ) (x : Placed X t) (inside : k < length nodes) (is : x ≡ get_or nodes k x) where
  states_inside : k < length (states_in nodes)
  states_inside = omega (arith, inside, length-map nodes placed_state)

  pub state_here : placed_state x ≡ state_at t.behaviour (states_in nodes) k
  state_here = state_read placed_state nodes k x t.behaviour.sample inside is

  -- a node has as many edges as ports
  pub inputs_here : length x.inputs.items ≡ inputs_at t.behaviour (states_in nodes) k
  inputs_here = x.each_input ∙ ap t.behaviour.inputs state_here ∙ sym (get_or-map t.behaviour.inputs (states_in nodes) k t.behaviour.sample 0 states_inside)

  pub outputs_here : length x.outputs.items ≡ outputs_at t.behaviour (states_in nodes) k
  outputs_here = x.each_output ∙ ap t.behaviour.outputs state_here ∙ sym (get_or-map t.behaviour.outputs (states_in nodes) k t.behaviour.sample 0 states_inside)

  module _ (edges : List Edge) (joined : IsJoined t.behaviour (states_in nodes) edges) (seated : AreSeated nodes edges) where
    -- and those of the network
    pub input_here : (p : ℕ) → p < inputs_at t.behaviour (states_in nodes) k → get_or x.inputs.items p 0 ≡ in_edge edges k p
    input_here p port =
        ap (λ (row : List ℕ). get_or row p 0) (ap (λ (n : Placed X t). n.inputs.items) is ∙ sym (get_or-map (λ (n : Placed X t). n.inputs.items) nodes k x [] inside))
        ∙ seated.inputs k p (joined.inputs k p port)

    pub output_here : (q : ℕ) → q < outputs_at t.behaviour (states_in nodes) k → get_or x.outputs.items q 0 ≡ out_edge edges k q
    output_here q port =
        ap (λ (row : List ℕ). get_or row q 0) (ap (λ (n : Placed X t). n.outputs.items) is ∙ sym (get_or-map (λ (n : Placed X t). n.outputs.items) nodes k x [] inside))
        ∙ seated.outputs k q (joined.outputs k q port)

  module _ (y : Placed X t) where
    pub seated_same : y.number ≡ x.number → y.inputs.items ≡ x.inputs.items → y.outputs.items ≡ x.outputs.items → (edges : List Edge) → AreSeated nodes edges → AreSeated (set nodes k y) edges
    seated_same number ins outs edges seated = record {
      numbers = λ j l. ap (λ (ns : List ℕ). get_or ns j 0) (map_set_back (λ (n : Placed X t). n.number) nodes k x y 0 inside is number) ∙ seated.numbers j (omega (arith, l, length-set nodes k y));
      inputs = λ j p taken. ap (λ table. number_at table j p) (map_set_back (λ (n : Placed X t). n.inputs.items) nodes k x y [] inside is ins) ∙ seated.inputs j p taken;
      outputs = λ j q taken. ap (λ table. number_at table j q) (map_set_back (λ (n : Placed X t). n.outputs.items) nodes k x y [] inside is outs) ∙ seated.outputs j q taken;
    }

    pub states_after : states_in (set nodes k y) ≡ set (states_in nodes) k (placed_state y)
    states_after = map-set placed_state nodes k y

    module _ (same : IsSamePlace x y) where
      pub openings_same : map t.behaviour.opening (states_in (set nodes k y)) ≡ map t.behaviour.opening (states_in nodes)
      openings_same =
          ap (map t.behaviour.opening) states_after
          ∙ map-set t.behaviour.opening (states_in nodes) k (placed_state y)
          ∙ ap (set (map t.behaviour.opening (states_in nodes)) k)
          (same.opening ∙ ap t.behaviour.opening state_here
          ∙ sym (get_or-map t.behaviour.opening (states_in nodes) k t.behaviour.sample t.behaviour.sample states_inside))
          ∙ set-get_or (map t.behaviour.opening (states_in nodes)) k t.behaviour.sample

      pub built_same : BehaviourLaws t.behaviour → (edges : List Edge) → IsBuilt t.behaviour (states_in nodes) edges → IsBuilt t.behaviour (states_in (set nodes k y)) edges
      built_same laws edges built = built_openings t.behaviour laws (states_in nodes) (states_in (set nodes k y)) openings_same edges built

-- The numbers at one side of the ports: where an edge is at a port of the table of the wiring, its number stands there.
module _ (node port : Edge → ℕ) where
  abbrev NamesEdges : List (List ℕ) → List Edge → Type 0
  NamesEdges numbers edges = (k p : ℕ) → position_or_len (at_port node port k p) edges < length edges → number_at numbers k p ≡ position_or_len (at_port node port k p) edges

  module _ (table : List (List (Option ℕ))) (edges : List Edge) (is : IsTableOf node port table edges) (numbers : List (List ℕ))
      (even : length table ≡ length numbers) (names : NamesEdges numbers edges) where
    -- a node more
    pub names_more : (row : List ℕ) → NamesEdges (numbers ++ row ∷ []) edges
    names_more row k p taken =
        let entry = entry_is node port table edges is k p taken in
        let there : k < length numbers = omega (arith, even, node_inside table k p (row_inside table k p (position_or_len (at_port node port k p) edges) entry)) in
        ap (λ (r : List ℕ). get_or r p 0) (get_or_append_left numbers (row ∷ []) [] k there) ∙ names k p taken

    -- an edge more, at a port that was free
    module _ (x : Edge) (table' : List (List (Option ℕ))) (is' : IsTableOf node port table' (edges ++ x ∷ [])) (free : length edges ≤ position_or_len (at_port node port (node x) (port x)) edges) where
      old_edge : (e : ℕ) → e < length edges → edge_at (edges ++ x ∷ []) e ≡ edge_at edges e
      old_edge e l = get_or_append_left edges (x ∷ []) _ e l

      -- an old edge keeps its number, and is at another port
      pub old_number : (k p e : ℕ) → position_or_len (at_port node port k p) (edges ++ x ∷ []) ≡ e → e < length edges →
          (position_or_len (at_port node port k p) edges ≡ e) × ((k ≡ node x) × (p ≡ port x) → ⊥)
      old_number k p e at l =
          let entry = entry_is node port table' (edges ++ x ∷ []) is' k p (omega (arith, at, l, length_push edges x)) ∙ ap Some at in
          let of_node : node (edge_at edges e) ≡ k = sym (ap node (old_edge e l)) ∙ is'.of_node k p e entry in
          let of_port : port (edge_at edges e) ≡ p = sym (ap port (old_edge e l)) ∙ is'.of_port k p e entry in
          let old : position_or_len (at_port node port k p) edges ≡ e =
          number_is node port table edges is k p e
          (ap (λ j. entry_at table j p) (sym of_node) ∙ ap (λ q. entry_at table (node (edge_at edges e)) q) (sym of_port) ∙ is.stands e l) in
          (old, λ (a, c). omega (arith, free, l, old, ap (λ j. position_or_len (at_port node port j p) edges) a, ap (λ q. position_or_len (at_port node port (node x) q) edges) c))

      -- the new edge is at its own port
      pub new_number : (k p : ℕ) → position_or_len (at_port node port k p) (edges ++ x ∷ []) ≡ length edges → (k ≡ node x) × (p ≡ port x)
      new_number k p at =
          let entry = entry_is node port table' (edges ++ x ∷ []) is' k p (omega (arith, at, length_push edges x)) ∙ ap Some at in
          let here : edge_at (edges ++ x ∷ []) (length edges) ≡ x = get_or_push edges x _ (length edges) refl in
          (sym (is'.of_node k p (length edges) entry) ∙ ap node here, sym (is'.of_port k p (length edges) entry) ∙ ap port here)

      module _ (row : List ℕ) (row_is : row ≡ get_or numbers (node x) []) (there : node x < length numbers) (within : port x < length row) where
        abbrev after : List (List ℕ)
        after = set numbers (node x) (set row (port x) (length edges))

        changed : number_at after (node x) (port x) ≡ length edges
        changed = ap (λ (r : List ℕ). get_or r (port x) 0) (get_or-set_same numbers (node x) (set row (port x) (length edges)) [] there) ∙ get_or-set_same row (port x) (length edges) 0 within

        unchanged : (k p : ℕ) → ((k ≡ node x) × (p ≡ port x) → ⊥) → ((k ≡ node x) ⊎ (k ≡ node x → ⊥)) → number_at after k p ≡ number_at numbers k p
        unchanged k p ne (inr far) = ap (λ (r : List ℕ). get_or r p 0) (get_or-set_other numbers (node x) k (set row (port x) (length edges)) [] far)
        unchanged k p ne (inl near) =
            ap (λ j. number_at after j p) near
            ∙ ap (λ (r : List ℕ). get_or r p 0) (get_or-set_same numbers (node x) (set row (port x) (length edges)) [] there)
            ∙ get_or-set_other row (port x) p (length edges) 0 (λ h. ne (near, h))
            ∙ ap (λ (r : List ℕ). get_or r p 0) row_is ∙ ap (λ j. number_at numbers j p) (sym near)

        pub names_edge : NamesEdges after (edges ++ x ∷ [])
        names_edge k p taken = go (cases_lt (position_or_len (at_port node port k p) (edges ++ x ∷ [])) (length edges))
          where
            go : (position_or_len (at_port node port k p) (edges ++ x ∷ []) < length edges) ⊎
                (length edges ≤ position_or_len (at_port node port k p) (edges ++ x ∷ [])) → number_at after k p
                ≡ position_or_len (at_port node port k p) (edges ++ x ∷ [])
            go (inl l) =
                let old = old_number k p (position_or_len (at_port node port k p) (edges ++ x ∷ [])) refl l in
                unchanged k p old.1 (cases_eq k (node x)) ∙ names k p (omega (arith, old.0, l)) ∙ old.0
            go (inr past) =
                let new : position_or_len (at_port node port k p) (edges ++ x ∷ []) ≡ length edges = omega (arith, past, taken, length_push edges x) in
                let here = new_number k p new in
                ap (λ j. number_at after j p) here.0 ∙ ap (λ q. number_at after (node x) q) here.1 ∙ changed ∙ sym new

module _ {X : Type 0} {t : Ghosts X} (nodes : List (Placed X t)) (ports : List Ports) (edges : List Edge) (wired : IsWiring ports edges)
    (even : length ports ≡ length nodes) (seated : AreSeated nodes edges) where
  even_ins : length (ins ports) ≡ length (inputs_in nodes)
  even_ins = length-map ports (λ (n : Ports). n.inputs.items) ∙ even ∙ sym (length-map nodes (λ (n : Placed X t). n.inputs.items))

  even_outs : length (outs ports) ≡ length (outputs_in nodes)
  even_outs = length-map ports (λ (n : Ports). n.outputs.items) ∙ even ∙ sym (length-map nodes (λ (n : Placed X t). n.outputs.items))

  -- a node more
  pub seated_node : (y : Placed X t) → y.number ≡ length nodes → AreSeated (nodes ++ y ∷ []) edges
  seated_node y number = record {
    numbers = λ k l. ap (λ (ns : List ℕ). get_or ns k 0) (map-append (λ (n : Placed X t). n.number) nodes (y ∷ [])) ∙ go k l (cases_eq k (length nodes));
    inputs = λ k p taken.
        ap (λ table. number_at table k p) (map-append (λ (n : Placed X t). n.inputs.items) nodes (y ∷ []))
        ∙ names_more input_side.node input_side.port (ins ports) edges wired.ins (inputs_in nodes) even_ins seated.inputs y.inputs.items k p taken;
    outputs = λ k q taken.
        ap (λ table. number_at table k q) (map-append (λ (n : Placed X t). n.outputs.items) nodes (y ∷ []))
        ∙ names_more output_side.node output_side.port (outs ports) edges wired.outs (outputs_in nodes) even_outs seated.outputs y.outputs.items k q taken;
  }
    where
      go : (k : ℕ) → k < length (nodes ++ y ∷ []) → ((k ≡ length nodes) ⊎ (k ≡ length nodes → ⊥)) → get_or (numbers_in nodes ++ y.number ∷ []) k 0 ≡ k
      go k l (inl last) = get_or_push (numbers_in nodes) y.number 0 k (omega (arith, last, length-map nodes (λ (n : Placed X t). n.number))) ∙ number ∙ sym last
      go k l (inr before) =
          let old : k < length nodes = omega (arith, l, length_push nodes y) in
          get_or_append_left (numbers_in nodes) (y.number ∷ []) 0 k (omega (arith, length-map nodes (λ (n : Placed X t). n.number))) ∙ seated.numbers k old

  -- an edge more: the writer's node names it, and then the reader's
  module _ (ports' : List Ports) (x : Edge) (wired' : IsWiring ports' (edges ++ x ∷ [])) (w w' r r' : Placed X t) (inside : x.reader < length nodes) (forward : x.writer < x.reader)
      (w_is : w ≡ get_or nodes x.writer w) (w_number : w'.number ≡ w.number) (w_outs : w'.outputs.items ≡ set w.outputs.items x.writer_port (length edges)) (w_ins : w'.inputs.items ≡ w.inputs.items)
      (r_is : r ≡ get_or (set nodes x.writer w') x.reader r) (r_number : r'.number ≡ r.number)
      (r_ins : r'.inputs.items ≡ set r.inputs.items x.reader_port (length edges)) (r_outs : r'.outputs.items ≡ r.outputs.items) where
    abbrev half : List (Placed X t)
    half = set nodes x.writer w'

    abbrev pub both_named : List (Placed X t)
    both_named = set half x.reader r'

    half_inside : x.reader < length half
    half_inside = omega (arith, length-set nodes x.writer w')

    writer_inside : x.writer < length nodes
    writer_inside = omega (arith, forward, inside)

    numbers_are : numbers_in both_named ≡ numbers_in nodes
    numbers_are = map_set_back (λ (n : Placed X t). n.number) half x.reader r r' 0 half_inside r_is r_number
        ∙ map_set_back (λ (n : Placed X t). n.number) nodes x.writer w w' 0 writer_inside w_is w_number

    half_ins : inputs_in half ≡ inputs_in nodes
    half_ins = map_set_back (λ (n : Placed X t). n.inputs.items) nodes x.writer w w' [] writer_inside w_is w_ins

    row_in : r.inputs.items ≡ get_or (inputs_in nodes) x.reader []
    row_in = ap (λ (n : Placed X t). n.inputs.items) r_is ∙ sym (get_or-map (λ (n : Placed X t). n.inputs.items) half x.reader r [] half_inside)
        ∙ ap (λ (table : List (List ℕ)). get_or table x.reader []) half_ins

    ins_are : inputs_in both_named ≡ set (inputs_in nodes) x.reader (set r.inputs.items x.reader_port (length edges))
    ins_are = map-set (λ (n : Placed X t). n.inputs.items) half x.reader r' ∙ ap (set (inputs_in half) x.reader) r_ins
        ∙ ap (λ table. set table x.reader (set r.inputs.items x.reader_port (length edges))) half_ins

    row_out : w.outputs.items ≡ get_or (outputs_in nodes) x.writer []
    row_out = ap (λ (n : Placed X t). n.outputs.items) w_is ∙ sym (get_or-map (λ (n : Placed X t). n.outputs.items) nodes x.writer w [] writer_inside)

    outs_are : outputs_in both_named ≡ set (outputs_in nodes) x.writer (set w.outputs.items x.writer_port (length edges))
    outs_are =
        map_set_back (λ (n : Placed X t). n.outputs.items) half x.reader r r' [] half_inside r_is r_outs
        ∙ map-set (λ (n : Placed X t). n.outputs.items) nodes x.writer w' ∙ ap (set (outputs_in nodes) x.writer) w_outs

    pub seated_edge : x.writer_port < length w.outputs.items → x.reader_port < length r.inputs.items →
        length edges ≤ out_edge edges x.writer x.writer_port → length edges ≤ in_edge edges x.reader x.reader_port →
        AreSeated both_named (edges ++ x ∷ [])
    seated_edge o i free_o free_i = record {
      numbers = λ k l. ap (λ (ns : List ℕ). get_or ns k 0) numbers_are ∙ seated.numbers k (omega (arith, l, length-set half x.reader r', length-set nodes x.writer w'));
      inputs = λ k p taken.
          ap (λ table. number_at table k p) ins_are
          ∙ names_edge input_side.node input_side.port (ins ports) edges wired.ins (inputs_in nodes) even_ins seated.inputs x (ins ports') wired'.ins free_i r.inputs.items row_in
          (omega (arith, inside, length-map nodes (λ (n : Placed X t). n.inputs.items))) i k p taken;
      outputs = λ k q taken.
          ap (λ table. number_at table k q) outs_are
          ∙ names_edge output_side.node output_side.port (outs ports) edges wired.outs (outputs_in nodes) even_outs seated.outputs x (outs ports') wired'.outs free_o w.outputs.items row_out
          (omega (arith, writer_inside, length-map nodes (λ (n : Placed X t). n.outputs.items))) o k q taken;
    }
