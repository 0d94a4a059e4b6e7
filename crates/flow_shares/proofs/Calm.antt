-- Visits in which no node made a step: each was stuck before, and still is.
use Rattle.std.proofs.Common.{◌≡◌, ◌≢◌, ℕ, ◌+◌, ◌<◌, ◌≤◌, true, List, length, get_or, set, ◌⊎◌, inl, inr, refl, sym, ◌∙◌, ap, subst, arith, length-append, get_or-set_other}
use Rattle.std.proofs.lemmas.Bool.{cases_eq}
use Rattle.std.proofs.lemmas.List.Elements.{All-from_get_or}
use mathlib.Core.List.{IsPrefix}
use Rattle.kahn.specs.declared.want.Want.{Want}
use Rattle.kahn.specs.declared.want.Want.TheVariants.{Read, Write, Ended, Faulted}
use Rattle.flow_messages.specs.Signals.{Signal}
use Rattle.flow_messages.specs.Ends.{View, SameTraffic}
use Rattle.flow_base.specs.Transducers.{BehaviourLaws}
use Rattle.flow_base.specs.declared.transducer.Transducer.{Ghosts}
use Rattle.flow_base.specs.Visits.{edge_of, IsNone, LeavesAlone, IsStuck}
use Rattle.flow_base.proofs.Carried.{prefix_same, prefix_then}
use Rattle.flow_networks.specs.declared.placed.Placed.{Placed}
use Rattle.flow_networks.specs.Over.{is_over}
use Rattle.flow_networks.specs.Places.{placed_state, IsSamePlace}
use Rattle.flow_networks.specs.Skeletons.{AreSamePlaces}
use Rattle.flow_shares.specs.Shares.{inputs_of, outputs_of, AreApart, AreStuck}
use Rattle.flow_shares.proofs.Ports.{IsAway, input_port, output_port}
use Rattle.flow_shares.proofs.Later.{it_is, now_is}
use Rattle.flow_shares.proofs.Visits.{is_away}

none_of : (edges : List ℕ) (e : ℕ) → IsAway edges e → IsNone edges e
none_of edges e away = All-from_get_or (λ f. e ≢ f) edges 0 away

-- What is stuck where ends are certain of no less was stuck before.
module _ (a v : View) (more_coming : (e : ℕ) → IsPrefix (a.coming e) (v.coming e)) (more_room : (e : ℕ) → a.room e ≤ v.room e) where
  less : (xs ys : List Signal) → IsPrefix xs ys → length ys ≡ 0 → length xs ≡ 0
  less xs ys (more, is) none = omega (arith, none, ap length is, length-append xs more)

  pub stuck_before : (ins outs : List ℕ) (want : Want) → IsStuck ins outs v want → IsStuck ins outs a want
  stuck_before ins outs (Read p) empty = less (a.coming (edge_of ins p)) (v.coming (edge_of ins p)) (more_coming (edge_of ins p)) empty
  stuck_before ins outs (Write q) full = omega (arith, full, more_room (edge_of outs q))
  stuck_before ins outs Ended h = h
  stuck_before ins outs (Faulted fault) h = h

-- what is over wants nothing
over_stuck : (ins outs : List ℕ) (v : View) (want : Want) → is_over want ≡ true → IsStuck ins outs v want
over_stuck ins outs v (Read p) over = absurd (cc)
over_stuck ins outs v (Write q) over = absurd (cc)
over_stuck ins outs v Ended over = tt
over_stuck ins outs v (Faulted fault) over = tt

module _ {X : Type 0} {t : Ghosts X} where
  -- the node cannot step by what its ends are certain of
  abbrev pub Stuck : View → Placed X t → Type 0
  Stuck v placed = IsStuck (inputs_of placed) (outputs_of placed) v (t.behaviour.process.want (placed_state placed))

  -- The nodes before n made no step from a to v, and are stuck there.
  pub record AreCalm (n : ℕ) (nodes later : List (Placed X t)) (a v : View) : Type 0 where
    pub traffic : SameTraffic a v
    pub more_coming : (e : ℕ) → IsPrefix (a.coming e) (v.coming e)
    pub more_room : (e : ℕ) → a.room e ≤ v.room e
    pub state : (j : ℕ) (d : Placed X t) → j < length nodes → placed_state (get_or later j d) ≡ placed_state (get_or nodes j d)
    pub stuck : (j : ℕ) (d : Placed X t) → j < n → j < length nodes → Stuck v (get_or later j d)

  pub calm_none : (nodes : List (Placed X t)) (a : View) → AreCalm 0 nodes nodes a a
  calm_none nodes a = record {
    traffic = record { sent = λ e. refl; received = λ e. refl };
    more_coming = λ e. prefix_same (a.coming e) (a.coming e) refl;
    more_room = λ e. omega arith;
    state = λ j d l. refl;
    stuck = λ j d low l. absurd (omega (arith, low));
  }

  -- one node more is over
  pub calm_over : (nodes later : List (Placed X t)) (a v : View) (k : ℕ) (x : Placed X t) → k < length later → x ≡ get_or later k x
      → is_over (t.behaviour.process.want (placed_state x)) ≡ true → AreCalm k nodes later a v → AreCalm (k + 1) nodes later a v
  calm_over nodes later a v k x inside is over calm = record {
    traffic = calm.traffic;
    more_coming = calm.more_coming;
    more_room = calm.more_room;
    state = calm.state;
    stuck = λ j d low l. go j d low l (cases_eq j k);
  }
    where
      go : (j : ℕ) (d : Placed X t) → j < k + 1 → j < length nodes → (j ≡ k) ⊎ (j ≡ k → ⊥) → Stuck v (get_or later j d)
      go j d low l (inl at) =
          subst (λ (i : ℕ). Stuck v (get_or later i d)) (sym at)
          (subst (λ (z : Placed X t). Stuck v z) (sym (it_is later k x x inside is d)) (over_stuck (inputs_of x) (outputs_of x) v (t.behaviour.process.want (placed_state x)) over))
      go j d low l (inr other) = calm.stuck j d (omega (arith, low, other)) l

  -- what another node does not disturb
  module _ (laws : BehaviourLaws t.behaviour) (z : Placed X t) (ins outs : List ℕ) (v w : View) (alone : LeavesAlone ins outs v w)
      (away_in : (p : ℕ) → p < length (inputs_of z) → IsAway ins (edge_of (inputs_of z) p)) (away_out : (q : ℕ) → q < length (outputs_of z) → IsAway outs (edge_of (outputs_of z) q)) where
    still : (want : Want) → t.behaviour.process.want (placed_state z) ≡ want → IsStuck (inputs_of z) (outputs_of z) v want → IsStuck (inputs_of z) (outputs_of z) w want
    still (Read p) wants empty =
        let port = input_port t.behaviour laws (inputs_of z) (placed_state z) p wants (record { reached = z.reached; each = z.each_input }) in
        let e = edge_of (inputs_of z) p in
        ap length (alone.coming e (none_of ins e (away_in p port))) ∙ empty
    still (Write q) wants full =
        let port = output_port t.behaviour laws (outputs_of z) (placed_state z) q wants (record { reached = z.reached; each = z.each_output }) in
        let e = edge_of (outputs_of z) q in
        alone.room e (none_of outs e (away_out q port)) ∙ full
    still Ended wants h = h
    still (Faulted fault) wants h = h

    pub still_stuck : Stuck v z → Stuck w z
    still_stuck = still (t.behaviour.process.want (placed_state z)) refl

  -- one node more, in its place, made no step
  module _ (laws : BehaviourLaws t.behaviour) (nodes mid : List (Placed X t)) (same : length mid ≡ length nodes) (apart : AreApart mid) (k : ℕ)
      (x y : Placed X t) (inside : k < length mid) (is : x ≡ get_or mid k x) (place : IsSamePlace x y) (a v w : View)
      (alone : LeavesAlone (inputs_of x) (outputs_of x) v w) (unmoved : placed_state x ≡ placed_state y) (stuck : Stuck w x) where
    stuck_later : Stuck w y
    stuck_later =
        subst (λ ins. IsStuck ins (outputs_of y) w (t.behaviour.process.want (placed_state y))) (sym place.inputs)
        (subst (λ outs. IsStuck (inputs_of x) outs w (t.behaviour.process.want (placed_state y))) (sym place.outputs)
        (subst (λ s. IsStuck (inputs_of x) (outputs_of x) w (t.behaviour.process.want s)) unmoved stuck))

    state_later : (j : ℕ) (d : Placed X t) → placed_state (get_or (set mid k y) j d) ≡ placed_state (get_or mid j d)
    state_later j d = go (cases_eq j k)
      where
        go : (j ≡ k) ⊎ (j ≡ k → ⊥) → placed_state (get_or (set mid k y) j d) ≡ placed_state (get_or mid j d)
        go (inl at) =
            ap (λ (i : ℕ). placed_state (get_or (set mid k y) i d)) at ∙ ap placed_state (now_is mid k x y inside is d) ∙ sym unmoved
            ∙ sym (ap placed_state (it_is mid k x y inside is d)) ∙ ap (λ (i : ℕ). placed_state (get_or mid i d)) (sym at)
        go (inr other) = ap placed_state (get_or-set_other mid k j y d other)

    stuck_at : (j : ℕ) (d : Placed X t) → j < length mid → (j < k → Stuck v (get_or mid j d)) → j < k + 1 → Stuck w (get_or (set mid k y) j d)
    stuck_at j d l before low = go (cases_eq j k)
      where
        go : (j ≡ k) ⊎ (j ≡ k → ⊥) → Stuck w (get_or (set mid k y) j d)
        go (inl at) = subst (λ (i : ℕ). Stuck w (get_or (set mid k y) i d)) (sym at) (subst (λ (z : Placed X t). Stuck w z) (sym (now_is mid k x y inside is d)) stuck_later)
        go (inr other) =
            subst (λ (z : Placed X t). Stuck w z) (sym (get_or-set_other mid k j y d other))
            (still_stuck laws (get_or mid j d) (inputs_of x) (outputs_of x) v w alone
            (λ p port. is_away inputs_of mid apart.inputs k x inside (it_is mid k x y inside is) j p d l other port)
            (λ q port. is_away outputs_of mid apart.outputs k x inside (it_is mid k x y inside is) j q d l other port)
            (before (omega (arith, low, other))))

    pub calm_next : AreCalm k nodes mid a v → AreCalm (k + 1) nodes (set mid k y) a w
    calm_next calm = record {
      traffic = record { sent = λ e. alone.traffic.sent e ∙ calm.traffic.sent e; received = λ e. alone.traffic.received e ∙ calm.traffic.received e };
      more_coming = λ e. prefix_then (a.coming e) (v.coming e) (w.coming e) (calm.more_coming e) (alone.more_coming e);
      more_room = λ e. omega (arith, calm.more_room e, alone.more_room e);
      state = λ j d l. state_later j d ∙ calm.state j d l;
      stuck = λ j d low l. stuck_at j d (omega (arith, l, same)) (λ below. calm.stuck j d below l) low;
    }

  -- they were stuck before
  module _ (nodes later : List (Placed X t)) (a v : View) (same : AreSamePlaces nodes later) (n : ℕ) (all : length nodes ≤ n) (calm : AreCalm n nodes later a v) where
    was_stuck : (j : ℕ) (d : Placed X t) → j < length nodes → Stuck a (get_or nodes j d)
    was_stuck j d l =
        let place = same.each j d l in
        let node : Placed X t = get_or nodes j d in
        let after : Placed X t = get_or later j d in
        stuck_before a v calm.more_coming calm.more_room (inputs_of node) (outputs_of node) (t.behaviour.process.want (placed_state node))
        (subst (λ ins. IsStuck ins (outputs_of node) v (t.behaviour.process.want (placed_state node))) place.inputs
        (subst (λ outs. IsStuck (inputs_of after) outs v (t.behaviour.process.want (placed_state node))) place.outputs
        (subst (λ s. IsStuck (inputs_of after) (outputs_of after) v (t.behaviour.process.want s)) (calm.state j d l) (calm.stuck j d (omega (arith, l, all)) l))))

    pub calm_end : AreStuck a nodes × AreStuck v later
    calm_end = (λ j d l. was_stuck j d l, λ j d l. calm.stuck j d (omega (arith, l, same.count, all)) (omega (arith, l, same.count)))
