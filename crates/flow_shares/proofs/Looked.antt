-- Nodes that were looked at one after another, each of which is stuck.
use Rattle.std.proofs.Common.{◌≡◌, ℕ, ◌+◌, ◌<◌, List, length, get_or, ◌⊎◌, inl, inr, refl, sym, ◌∙◌, subst, arith}
use Rattle.std.proofs.lemmas.Bool.{cases_eq}
use Rattle.flow_messages.specs.Ends.{View, SameEnds}
use Rattle.flow_base.specs.Transducers.{BehaviourLaws}
use Rattle.flow_base.specs.declared.transducer.Transducer.{Ghosts}
use Rattle.flow_base.specs.Visits.{LeavesAlone}
use Rattle.flow_base.proofs.Carried.{same_ends_refl, same_ends_then, prefix_same, prefix_then}
use Rattle.flow_networks.specs.declared.placed.Placed.{Placed}
use Rattle.flow_shares.specs.Looks.{LookedAround}
use Rattle.flow_shares.specs.Shares.{inputs_of, outputs_of, AreApart}
use Rattle.flow_shares.proofs.Later.{it_is}
use Rattle.flow_shares.proofs.Visits.{is_away}
use Rattle.flow_shares.proofs.Calm.{Stuck, still_stuck}

pub around_refl : (a : View) → LookedAround a a
around_refl a = record {
  ends = same_ends_refl a;
  traffic = record { sent = λ k. refl; received = λ k. refl };
  coming = λ e. prefix_same (a.coming e) (a.coming e) refl;
  room = λ e. omega arith;
}

pub around_then : (a v w : View) → LookedAround a v → LookedAround v w → LookedAround a w
around_then a v w h g = record {
  ends = same_ends_then a v w h.ends g.ends;
  traffic = record { sent = λ e. g.traffic.sent e ∙ h.traffic.sent e; received = λ e. g.traffic.received e ∙ h.traffic.received e };
  coming = λ e. prefix_then (a.coming e) (v.coming e) (w.coming e) (h.coming e) (g.coming e);
  room = λ e. omega (arith, h.room e, g.room e);
}

module _ {X : Type 0} {t : Ghosts X} where
  -- The nodes before n were looked at, and are stuck.
  pub record AreStuckSoFar (n : ℕ) (nodes : List (Placed X t)) (a v : View) : Type 0 where
    pub looked : LookedAround a v
    pub stuck : (j : ℕ) (d : Placed X t) → j < n → j < length nodes → Stuck v (get_or nodes j d)

  pub stuck_none : (nodes : List (Placed X t)) (a : View) → AreStuckSoFar 0 nodes a a
  stuck_none nodes a = record {
    looked = around_refl a;
    stuck = λ j d low l. absurd (omega (arith, low));
  }

  -- one node more was looked at
  module _ (laws : BehaviourLaws t.behaviour) (nodes : List (Placed X t)) (apart : AreApart nodes) (k : ℕ) (x : Placed X t) (inside : k < length nodes) (is : x ≡ get_or nodes k x)
      (a v w : View) (ends : SameEnds v w) (alone : LeavesAlone (inputs_of x) (outputs_of x) v w) (so_far : AreStuckSoFar k nodes a v) where
    pub looked_next : LookedAround a w
    looked_next = around_then a v w so_far.looked (record { ends = ends; traffic = alone.traffic; coming = alone.more_coming; room = alone.more_room })

    -- and is stuck too
    module _ (stuck : Stuck w x) where
      stuck_at : (j : ℕ) (d : Placed X t) → j < k + 1 → j < length nodes → Stuck w (get_or nodes j d)
      stuck_at j d low l = go (cases_eq j k)
        where
          go : (j ≡ k) ⊎ (j ≡ k → ⊥) → Stuck w (get_or nodes j d)
          go (inl at) = subst (λ (i : ℕ). Stuck w (get_or nodes i d)) (sym at) (subst (λ (z : Placed X t). Stuck w z) (sym (it_is nodes k x x inside is d)) stuck)
          go (inr other) =
              still_stuck laws (get_or nodes j d) (inputs_of x) (outputs_of x) v w alone
              (λ p port. is_away inputs_of nodes apart.inputs k x inside (it_is nodes k x x inside is) j p d l other port)
              (λ q port. is_away outputs_of nodes apart.outputs k x inside (it_is nodes k x x inside is) j q d l other port)
              (so_far.stuck j d (omega (arith, low, other)) l)

      pub stuck_next : AreStuckSoFar (k + 1) nodes a w
      stuck_next = record { looked = looked_next; stuck = stuck_at }
