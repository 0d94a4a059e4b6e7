-- Moves that follow each other, and what they make of what the nodes keep.
use Rattle.std.proofs.Common.{◌≡◌, ℕ, ◌<◌, ◌≤◌, ◌+◌, List, [], ◌++◌, length, get_or, refl, sym, ◌∙◌, ap, subst, arith, append-nil, append_assoc}
use Rattle.std.specs.List.{All}
use mathlib.Core.Logic.{∥∥₁_map}
use Rattle.kahn.specs.Basics.{Begins}
use Rattle.kahn.specs.Processes.{Event, Does, reads, writes}
use Rattle.kahn.proofs.History.{does_then, reads_append, writes_append}
use Rattle.flow_messages.specs.Signals.{Signal}
use Rattle.flow_messages.specs.Ends.{View}
use Rattle.flow_base.specs.declared.transducer.Transducer.{Ghosts}
use Rattle.flow_base.specs.Visits.{edge_of, IsNone}
use Rattle.flow_networks.specs.declared.placed.Placed.{Placed}
use Rattle.flow_networks.specs.Places.{placed_state, IsSamePlace}
use Rattle.flow_networks.specs.Skeletons.{AreSamePlaces}
use Rattle.flow_shares.specs.Shares.{inputs_of, outputs_of, IsOwn, HasHistory, HaveMoved, HaveMovedAndLost}
use Rattle.flow_shares.proofs.Later.{all_inputs_later, all_outputs_later}

-- what was added twice to a list was added
twice : {X : Type 0} (now mid before one two all : List X) → now ≡ mid ++ two → mid ≡ before ++ one → one ++ two ≡ all → now ≡ before ++ all
twice now mid before one two all h g is = h ∙ ap (λ l. l ++ two) g ∙ append_assoc before one two ∙ ap (λ l. before ++ l) is

module _ {X : Type 0} {t : Ghosts X} where
  pub moved_none : (nodes : List (Placed X t)) (a : View) → HaveMoved nodes nodes a a
  moved_none nodes a = record {
    history = λ k. [];
    does = λ k d l. refl;
    received = λ k p d l port. sym (append-nil (a.received (edge_of (inputs_of (get_or nodes k d)) p)));
    sent = λ k q d l port. sym (append-nil (a.sent (edge_of (outputs_of (get_or nodes k d)) q)));
    other_received = λ e none. refl;
    other_sent = λ e none. refl;
  }

  pub moved_none_history : (nodes : List (Placed X t)) (a : View) (k : ℕ) → (moved_none nodes a).history k ≡ []
  unfolding moved_none
  moved_none_history nodes a k = refl

  -- after some moves
  module _ (nodes mid later : List (Placed X t)) (a v w : View) (same : AreSamePlaces nodes mid) (first : HaveMoved nodes mid a v) where
    there : (k : ℕ) → k < length nodes → k < length mid
    there k l = omega (arith, l, same.count)

    none_in : (e : ℕ) → All (λ placed. IsNone (inputs_of placed) e) nodes → All (λ placed. IsNone (inputs_of placed) e) mid
    none_in e = all_inputs_later nodes mid same (λ edges. IsNone edges e)

    none_out : (e : ℕ) → All (λ placed. IsNone (outputs_of placed) e) nodes → All (λ placed. IsNone (outputs_of placed) e) mid
    none_out e = all_outputs_later nodes mid same (λ edges. IsNone edges e)

    -- some more
    pub moved_then : HaveMoved mid later v w → HaveMoved nodes later a w
    moved_then second = record {
      history = λ k. first.history k ++ second.history k;
      does = λ k d l. does_then t.behaviour.process (placed_state (get_or nodes k d)) (placed_state (get_or mid k d))
          (placed_state (get_or later k d)) (first.history k) (second.history k) (first.does k d l) (second.does k d (there k l));
      received = λ k p d l port.
          let e = edge_of (inputs_of (get_or nodes k d)) p in
          twice (w.received e) (v.received e) (a.received e) (reads p (first.history k)) (reads p (second.history k)) (reads p (first.history k ++ second.history k))
          (subst (λ edges. p < length edges → w.received (edge_of edges p) ≡ v.received (edge_of edges p) ++ reads p (second.history k))
          (same.each k d l).inputs (second.received k p d (there k l)) port)
          (first.received k p d l port) (reads_append p (first.history k) (second.history k));
      sent = λ k q d l port.
          let e = edge_of (outputs_of (get_or nodes k d)) q in
          twice (w.sent e) (v.sent e) (a.sent e) (writes q (first.history k)) (writes q (second.history k)) (writes q (first.history k ++ second.history k))
          (subst (λ edges. q < length edges → w.sent (edge_of edges q) ≡ v.sent (edge_of edges q) ++ writes q (second.history k)) (same.each k d l).outputs (second.sent k q d (there k l)) port)
          (first.sent k q d l port) (writes_append q (first.history k) (second.history k));
      other_received = λ e none. second.other_received e (none_in e none) ∙ first.other_received e none;
      other_sent = λ e none. second.other_sent e (none_out e none) ∙ first.other_sent e none;
    }

    pub moved_then_history : (second : HaveMoved mid later v w) (k : ℕ) → (moved_then second).history k ≡ first.history k ++ second.history k
    unfolding moved_then
    moved_then_history second k = refl

    -- some more until memory was refused
    pub lost_then : HaveMovedAndLost mid later v w → HaveMovedAndLost nodes later a w
    lost_then second = record {
      history = λ k. first.history k ++ second.history k;
      lost = second.lost;
      does = λ k d l. does_then t.behaviour.process (placed_state (get_or nodes k d)) (placed_state (get_or mid k d))
          (placed_state (get_or later k d)) (first.history k) (second.history k) (first.does k d l) (second.does k d (there k l));
      received = λ k p d l port.
          let e = edge_of (inputs_of (get_or nodes k d)) p in
          let before = v.received e ++ reads p (second.history k) in
          let all : before ≡ a.received e ++ reads p (first.history k ++ second.history k) =
          twice before (v.received e) (a.received e) (reads p (first.history k)) (reads p (second.history k))
          (reads p (first.history k ++ second.history k)) refl (first.received k p d l port) (reads_append p (first.history k) (second.history k))
          in
          subst (λ l. Begins l (w.received e) × (length (w.received e) ≤ length l + 1) × ((e ≡ second.lost → ⊥) → w.received e ≡ l)) all
          (subst (λ edges. p < length edges → let f = edge_of edges p in let l = v.received f ++ reads p (second.history k) in Begins l (w.received f)
          × (length (w.received f) ≤ length l + 1) × ((f ≡ second.lost → ⊥) → w.received f ≡ l)) (same.each k d l).inputs
          (second.received k p d (there k l)) port);
      sent = λ k q d l port.
          let e = edge_of (outputs_of (get_or nodes k d)) q in
          twice (w.sent e) (v.sent e) (a.sent e) (writes q (first.history k)) (writes q (second.history k)) (writes q (first.history k ++ second.history k))
          (subst (λ edges. q < length edges → w.sent (edge_of edges q) ≡ v.sent (edge_of edges q) ++ writes q (second.history k)) (same.each k d l).outputs (second.sent k q d (there k l)) port)
          (first.sent k q d l port) (writes_append q (first.history k) (second.history k));
      other_received = λ e none. second.other_received e (none_in e none) ∙ first.other_received e none;
      other_sent = λ e none. second.other_sent e (none_out e none) ∙ first.other_sent e none;
    }

  -- after its moves a node still has the history of its own edges
  own_after : (before after : Placed X t) (a v : View) → IsSamePlace before after → (more : List (Event Signal)) → Does t.behaviour.process (placed_state before) more (placed_state after)
      → ((p : ℕ) → p < length (inputs_of before) → v.received (edge_of (inputs_of before) p) ≡ a.received (edge_of (inputs_of before) p) ++ reads p more)
      → ((q : ℕ) → q < length (outputs_of before) → v.sent (edge_of (outputs_of before) q) ≡ a.sent (edge_of (outputs_of before) q) ++ writes q more)
      → IsOwn a before → IsOwn v after
  own_after before after a v place more does received sent own = ∥∥₁_map own (λ (h : HasHistory a before). record {
    history = h.history ++ more;
    does = subst (λ o. Does t.behaviour.process o (h.history ++ more) (placed_state after)) (sym place.opening)
        (does_then t.behaviour.process (t.behaviour.opening (placed_state before)) (placed_state before) (placed_state after) h.history more h.does does);
    received = subst (λ edges. (p : ℕ) → p < length edges → v.received (edge_of edges p) ≡ reads p (h.history ++ more)) (sym place.inputs)
        (λ p port. received p port ∙ ap (λ l. l ++ reads p more) (h.received p port) ∙ reads_append p h.history more);
    sent = subst (λ edges. (q : ℕ) → q < length edges → v.sent (edge_of edges q) ≡ writes q (h.history ++ more)) (sym place.outputs)
        (λ q port. sent q port ∙ ap (λ l. l ++ writes q more) (h.sent q port) ∙ writes_append q h.history more);
  })

  pub own_later : (nodes later : List (Placed X t)) (a v : View) → AreSamePlaces nodes later → HaveMoved nodes later a v → All (IsOwn a) nodes → All (IsOwn v) later
  own_later nodes later a v same moved own k d l =
      let l' : k < length nodes = omega (arith, l, same.count) in
      own_after (get_or nodes k d) (get_or later k d) a v (same.each k d l') (moved.history k) (moved.does k d l')
      (λ p port. moved.received k p d l' port) (λ q port. moved.sent k q d l' port) (own k d l')
