-- What a visit of one node makes of all.
use Rattle.std.proofs.Common.{◌≡◌, ℕ, ◌+◌, ◌<◌, ◌≤◌, true, false, cond, eqb, List, [], ◌++◌, length, get_or, set, map, ◌⊎◌, inl, inr, refl, sym, ◌∙◌}
use Rattle.std.proofs.Common.{ap, subst, arith, append-nil, eq-eqb, ne_eqb, get_or-set_other}
use Rattle.std.specs.List.{All}
use Rattle.std.proofs.lemmas.Bool.{cases_eq}
use Rattle.std.proofs.lemmas.List.{get_or-map, length-set}
use mathlib.Core.Logic.{∥∥₁_map}
use Rattle.kahn.specs.Basics.{Begins}
use Rattle.kahn.specs.Processes.{Event, Does, reads, writes}
use Rattle.flow_messages.specs.Signals.{Signal}
use Rattle.flow_messages.specs.Ends.{View}
use Rattle.flow_base.specs.Transducers.{Behaviour, BehaviourLaws}
use Rattle.flow_base.specs.declared.transducer.Transducer.{Ghosts}
use Rattle.flow_base.specs.Visits.{read_from, sent_after, edge_of, IsNone, Carried, BrokeOff}
use Rattle.flow_networks.specs.declared.placed.Placed.{Placed}
use Rattle.flow_networks.specs.Places.{placed_state}
use Rattle.flow_shares.specs.Shares.{row_of, StandOnce, inputs_of, outputs_of, IsOwn, HasHistory, AreApart, TakesMemory, HaveMoved, HaveMovedAndLost}
use Rattle.flow_shares.proofs.Ports.{AreOwn, IsAway, HasInputs, HasOutputs, WroteAll, read_own, read_other, sent_own, sent_other}
use Rattle.flow_shares.proofs.Later.{it_is, now_is}

-- where edges stand once in the table of all, they do at these nodes
stand_apart : {X : Type 0} (edges : X → List ℕ) (nodes : List X) → StandOnce (map edges nodes) → (j k p q : ℕ) (d : X) → j < length nodes → k < length nodes
    → p < length (edges (get_or nodes j d)) → q < length (edges (get_or nodes k d)) → edge_of (edges (get_or nodes j d)) p ≡ edge_of (edges (get_or nodes k d)) q → (j ≡ k) × (p ≡ q)
stand_apart {X} edges nodes once j k p q d at_j at_k port_p port_q same =
    let row_j : row_of (map edges nodes) j ≡ edges (get_or nodes j d) = get_or-map edges nodes j d [] at_j in
    let row_k : row_of (map edges nodes) k ≡ edges (get_or nodes k d) = get_or-map edges nodes k d [] at_k in
    once j k p q (subst (λ (r : List ℕ). p < length r) (sym row_j) port_p) (subst (λ (r : List ℕ). q < length r) (sym row_k) port_q)
    (ap (λ (r : List ℕ). edge_of r p) row_j ∙ same ∙ sym (ap (λ (r : List ℕ). edge_of r q) row_k))

-- one node of some, whose edges stand once in the table of all
module _ {X : Type 0} (edges : X → List ℕ) (nodes : List X) (once : StandOnce (map edges nodes)) (k : ℕ) (x : X) (inside : k < length nodes) (is : (d : X) → get_or nodes k d ≡ x) where
  pub are_own : AreOwn (edges x)
  are_own = subst (λ (z : X). AreOwn (edges z)) (is x) (λ p q port_p port_q same. (stand_apart edges nodes once k k p q x inside inside port_p port_q same).1)

  pub is_away : (j p : ℕ) (d : X) → j < length nodes → (j ≡ k → ⊥) → p < length (edges (get_or nodes j d)) → IsAway (edges x) (edge_of (edges (get_or nodes j d)) p)
  is_away j p d l other port q port_q same =
      other (stand_apart edges nodes once j k p q d l inside port (subst (λ (z : X). q < length (edges z)) (sym (is d)) port_q) (same ∙ ap (λ (z : X). edge_of (edges z) q) (sym (is d)))).0

  pub none_away : (e : ℕ) → All (λ node. IsNone (edges node) e) nodes → IsAway (edges x) e
  none_away e none q port same = subst (λ (z : X). IsNone (edges z) e) (is x) (none k x inside) q 0 port same

module _ {X : Type 0} {t : Ghosts X} (laws : BehaviourLaws t.behaviour) (nodes : List (Placed X t)) (k : ℕ) (x y : Placed X t)
    (inside : k < length nodes) (is : x ≡ get_or nodes k x) (apart : AreApart nodes) (h : List (Event Signal))
    (does : Does t.behaviour.process (placed_state x) h (placed_state y)) where
  abbrev b : Behaviour t.State
  b = t.behaviour

  has_inputs : HasInputs b laws (inputs_of x) (placed_state x)
  has_inputs = record { reached = x.reached; each = x.each_input }

  has_outputs : HasOutputs b laws (outputs_of x) (placed_state x)
  has_outputs = record { reached = x.reached; each = x.each_output }

  -- the events of node j
  pub at : ℕ → List (Event Signal)
  at j = cond (eqb j k) h []

  pub at_here : (j : ℕ) → j ≡ k → at j ≡ h
  unfolding at
  at_here j same = ap (λ c. cond c h []) (eq-eqb j k same)

  at_other : (j : ℕ) → (j ≡ k → ⊥) → at j ≡ []
  unfolding at
  at_other j other = ap (λ c. cond c h []) (ne_eqb j k other)

  here : (j : ℕ) (d : Placed X t) → j ≡ k → get_or nodes j d ≡ x
  here j d same = ap (λ (i : ℕ). get_or nodes i d) same ∙ it_is nodes k x y inside is d

  does_at : (j : ℕ) (d : Placed X t) → Does b.process (placed_state (get_or nodes j d)) (at j) (placed_state (get_or (set nodes k y) j d))
  does_at j d = go (cases_eq j k)
    where
      go : (j ≡ k) ⊎ (j ≡ k → ⊥) → Does b.process (placed_state (get_or nodes j d)) (at j) (placed_state (get_or (set nodes k y) j d))
      go (inl same) =
          let later : get_or (set nodes k y) j d ≡ y = ap (λ (i : ℕ). get_or (set nodes k y) i d) same ∙ now_is nodes k x y inside is d in
          subst (λ l. Does b.process (placed_state (get_or nodes j d)) l (placed_state (get_or (set nodes k y) j d))) (sym (at_here j same))
          (subst (λ (z : Placed X t). Does b.process (placed_state z) h (placed_state (get_or (set nodes k y) j d))) (sym (here j d same))
          (subst (λ (z : Placed X t). Does b.process (placed_state x) h (placed_state z)) (sym later) does))
      go (inr other) = subst (λ l. Does b.process (placed_state (get_or nodes j d)) l (placed_state (get_or (set nodes k y) j d)))
          (sym (at_other j other)) (sym (ap placed_state (get_or-set_other nodes k j y d other)))

  -- what the visit takes from the edges at the input ports of node j
  reads_at : (j p : ℕ) (d : Placed X t) → j < length nodes → p < length (inputs_of (get_or nodes j d)) → read_from (edge_of (inputs_of x)) (edge_of (inputs_of (get_or nodes j d)) p) h ≡ reads p (at j)
  reads_at j p d l port = go (cases_eq j k)
    where
      go : (j ≡ k) ⊎ (j ≡ k → ⊥) → read_from (edge_of (inputs_of x)) (edge_of (inputs_of (get_or nodes j d)) p) h ≡ reads p (at j)
      go (inl same) =
          subst (λ (z : Placed X t). p < length (inputs_of z) → read_from (edge_of (inputs_of x)) (edge_of (inputs_of z) p) h ≡ reads p (at j)) (sym (here j d same))
          (λ port'. read_own b laws (inputs_of x) (are_own inputs_of nodes apart.inputs k x inside (it_is nodes k x y inside is)) p port' h
          (placed_state x) (placed_state y) has_inputs does ∙ ap (reads p) (sym (at_here j same)))
          port
      go (inr other) =
          read_other b laws (inputs_of x) (edge_of (inputs_of (get_or nodes j d)) p)
          (is_away inputs_of nodes apart.inputs k x inside (it_is nodes k x y inside is) j p d l other port) h (placed_state x) (placed_state y)
          has_inputs does
          ∙ ap (reads p) (sym (at_other j other))

  none_read : (e : ℕ) → All (λ placed. IsNone (inputs_of placed) e) nodes → read_from (edge_of (inputs_of x)) e h ≡ []
  none_read e none = read_other b laws (inputs_of x) e (none_away inputs_of nodes apart.inputs k x inside (it_is nodes k x y inside is) e none) h (placed_state x) (placed_state y) has_inputs does

  none_sent : (e : ℕ) (sent : List Signal) → All (λ placed. IsNone (outputs_of placed) e) nodes → sent_after (edge_of (outputs_of x)) e sent h ≡ sent
  none_sent e sent none =
      sent_other b laws (outputs_of x) e (none_away outputs_of nodes apart.outputs k x inside (it_is nodes k x y inside is) e none) h (placed_state x)
      (placed_state y) has_outputs does sent

  module _ (v w : View) (own : IsOwn v x) where
    wrote_all : (q : ℕ) → q < length (outputs_of x) → WroteAll b laws (outputs_of x) q (placed_state x) (v.sent (edge_of (outputs_of x) q))
    wrote_all q port = ∥∥₁_map own (λ (before : HasHistory v x). (before.history, before.does, before.sent q port))

    -- what the visit puts on the edges at the output ports of node j
    sent_at : (j q : ℕ) (d : Placed X t) → j < length nodes → q < length (outputs_of (get_or nodes j d)) → let e =
        edge_of (outputs_of (get_or nodes j d)) q in sent_after (edge_of (outputs_of x)) e (v.sent e) h ≡ v.sent e ++ writes q (at j)
    sent_at j q d l port = go (cases_eq j k)
      where
        go : (j ≡ k) ⊎ (j ≡ k → ⊥) → let e = edge_of (outputs_of (get_or nodes j d)) q in sent_after (edge_of (outputs_of x)) e (v.sent e) h ≡ v.sent e ++ writes q (at j)
        go (inl same) =
            subst (λ (z : Placed X t). q < length (outputs_of z) → let e = edge_of (outputs_of z) q in
            sent_after (edge_of (outputs_of x)) e (v.sent e) h ≡ v.sent e ++ writes q (at j)) (sym (here j d same))
            (λ port'.
            sent_own b laws (outputs_of x) (are_own outputs_of nodes apart.outputs k x inside (it_is nodes k x y inside is)) q port' h
            (placed_state x) (placed_state y) has_outputs does (v.sent (edge_of (outputs_of x) q)) (wrote_all q port')
            ∙ ap (λ l. v.sent (edge_of (outputs_of x) q) ++ writes q l) (sym (at_here j same)))
            port
        go (inr other) =
            let e = edge_of (outputs_of (get_or nodes j d)) q in
            sent_other b laws (outputs_of x) e (is_away outputs_of nodes apart.outputs k x inside (it_is nodes k x y inside is) j q d l other port) h
            (placed_state x) (placed_state y) has_outputs does (v.sent e)
            ∙ sym (append-nil (v.sent e)) ∙ ap (λ l. v.sent e ++ writes q l) (sym (at_other j other))

    -- where it took and put just its messages, all have moved
    pub visit_moved : Carried (inputs_of x) (outputs_of x) h v w → HaveMoved nodes (set nodes k y) v w
    visit_moved carried = record {
      history = at;
      does = λ j d l. does_at j d;
      received = λ j p d l port. let e = edge_of (inputs_of (get_or nodes j d)) p in carried.received e ∙ ap (λ l. v.received e ++ l) (reads_at j p d l port);
      sent = λ j q d l port. carried.sent (edge_of (outputs_of (get_or nodes j d)) q) ∙ sent_at j q d l port;
      other_received = λ e none. carried.received e ∙ ap (λ l. v.received e ++ l) (none_read e none) ∙ append-nil (v.received e);
      other_sent = λ e none. carried.sent e ∙ none_sent e (v.sent e) none;
    }

    pub visit_history : (carried : Carried (inputs_of x) (outputs_of x) h v w) → (visit_moved carried).history k ≡ h
    unfolding visit_moved
    visit_history carried = at_here k refl

-- where memory was refused
module _ {X : Type 0} {t : Ghosts X} (laws : BehaviourLaws t.behaviour) (nodes : List (Placed X t)) (k : ℕ) (x y : Placed X t)
    (inside : k < length nodes) (is : x ≡ get_or nodes k x) (apart : AreApart nodes) (v w : View) (own : IsOwn v x)
    (broke : BrokeOff (inputs_of x) (outputs_of x) t.behaviour (placed_state x) v (placed_state y) w) where
  pub visit_lost : HaveMovedAndLost nodes (set nodes k y) v w
  visit_lost = record {
    history = at laws nodes k x y inside is apart broke.history broke.does;
    lost = broke.lost_edge;
    does = λ j d l. does_at laws nodes k x y inside is apart broke.history broke.does j d;
    received = λ j p d l port.
        let e = edge_of (inputs_of (get_or nodes j d)) p in
        subst (λ l. let before = v.received e ++ l in Begins before (w.received e) × (length (w.received e) ≤ length before + 1) × ((e ≡ broke.lost_edge → ⊥) → w.received e ≡ before))
        (reads_at laws nodes k x y inside is apart broke.history broke.does j p d l port) (broke.received e, broke.lost e, broke.kept e);
    sent = λ j q d l port. broke.sent (edge_of (outputs_of (get_or nodes j d)) q) ∙ sent_at laws nodes k x y inside is apart broke.history broke.does v w own j q d l port;
    other_received = λ e none.
        broke.others e (subst (λ (z : Placed X t). IsNone (inputs_of z) e) (sym is) (none k x inside))
        ∙ ap (λ l. v.received e ++ l) (none_read laws nodes k x y inside is apart broke.history broke.does e none) ∙ append-nil (v.received e);
    other_sent = λ e none. broke.sent e ∙ none_sent laws nodes k x y inside is apart broke.history broke.does e (v.sent e) none;
  }

  pub visit_starves : TakesMemory (set nodes k y)
  visit_starves none =
      let spared : t.behaviour.takes_memory (placed_state y) ≡ false =
      subst (λ (z : Placed X t). t.behaviour.takes_memory (placed_state z) ≡ false) (now_is nodes k x y inside is y)
      (none k y (omega (arith, inside, length-set nodes k y))) in
      let no : true ≡ false = sym broke.starves ∙ spared in
      cc
