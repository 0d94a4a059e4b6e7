-- Shares that were looked at one after another.
use Rattle.std.proofs.Common.{◌≡◌, ℕ, ◌+◌, ◌<◌, List, length, get_or, set, ◌⊎◌, inl, inr, refl, sym, ◌∙◌, subst, arith, get_or-set_same, get_or-set_other}
use Rattle.std.proofs.lemmas.Bool.{cases_eq}
use Rattle.std.proofs.lemmas.List.{length-set}
use Rattle.std.proofs.lemmas.List.Elements.{at_read}
use Rattle.flow_messages.specs.declared.ends.Ends.{Ghosts as EndsGhosts}
use Rattle.flow_base.specs.declared.transducer.Transducer.{Ghosts}
use Rattle.flow_shares.specs.declared.share.Share.{Share}
use Rattle.flow_shares.specs.Looks.{IsLookedAt}
use Rattle.flow_shares.specs.Shares.{AreStuck}
use Rattle.flow_shares.proofs.Looked.{around_refl, around_then}
use Rattle.flow_shares.specs.meetings.SharedNetworks.{NoneCanStep, AreLookedAt}

module _ {X Y : Type 0} {t : Ghosts X} {u : EndsGhosts Y} where
  -- no node of this share can step
  abbrev pub Stuck : Share X Y t u → Type 0
  Stuck share = AreStuck (u.view share.ends) share.nodes.items

  -- The shares before n were looked at, and no node of them can step.
  pub record AreStuckSoFar (n : ℕ) (shares later : List (Share X Y t u)) : Type 0 where
    pub looked : AreLookedAt shares later
    pub stuck : (j : ℕ) (d : Share X Y t u) → j < n → j < length later → Stuck (get_or later j d)

  pub stuck_none : ((a : Y) → u.same a a) → (shares : List (Share X Y t u)) → AreStuckSoFar 0 shares shares
  stuck_none same_refl shares = record {
    looked = record { count = refl; each = λ s d l. let share = get_or shares s d in record { body = refl; same = same_refl share.ends; looked = around_refl (u.view share.ends) } };
    stuck = λ j d low l. absurd (omega (arith, low));
  }

  -- where no node of any share can step, none can of the one that was put at k
  pub stuck_there : (mid : List (Share X Y t u)) (k : ℕ) (y : Share X Y t u) → k < length mid → NoneCanStep (set mid k y) → Stuck y
  stuck_there mid k y inside none = subst (λ (z : Share X Y t u). Stuck z) (get_or-set_same mid k y y inside) (none k y (omega (arith, inside, length-set mid k y)))

  -- one share more was looked at
  module _ (same_trans : (a b c : Y) → u.same a b → u.same b c → u.same a c) (shares mid : List (Share X Y t u)) (k : ℕ) (x y : Share X Y t u) (inside : k < length mid) (is : x ≡ get_or mid k x)
      (one : IsLookedAt x y) (so_far : AreStuckSoFar k shares mid) where
    it_is : (d : Share X Y t u) → get_or mid k d ≡ x
    it_is d = at_read mid (λ z. z ≡ x) k x inside is refl d

    now_is : (d : Share X Y t u) → get_or (set mid k y) k d ≡ y
    now_is d = get_or-set_same mid k y d inside

    looked_then : (a b c : Share X Y t u) → IsLookedAt a b → IsLookedAt b c → IsLookedAt a c
    looked_then a b c h g = record {
      body = g.body ∙ h.body;
      same = same_trans a.ends b.ends c.ends h.same g.same;
      looked = around_then (u.view a.ends) (u.view b.ends) (u.view c.ends) h.looked g.looked;
    }

    looked_at : (s : ℕ) (d : Share X Y t u) → s < length shares → IsLookedAt (get_or shares s d) (get_or (set mid k y) s d)
    looked_at s d l = go (cases_eq s k)
      where
        before : IsLookedAt (get_or shares s d) (get_or mid s d)
        before = so_far.looked.each s d l

        go : (s ≡ k) ⊎ (s ≡ k → ⊥) → IsLookedAt (get_or shares s d) (get_or (set mid k y) s d)
        go (inl at) =
            subst (λ (i : ℕ). IsLookedAt (get_or shares s d) (get_or (set mid k y) i d)) (sym at)
            (subst (λ (z : Share X Y t u). IsLookedAt (get_or shares s d) z) (sym (now_is d))
            (looked_then (get_or shares s d) x y
            (subst (λ (z : Share X Y t u). IsLookedAt (get_or shares s d) z) (it_is d)
            (subst (λ (i : ℕ). IsLookedAt (get_or shares s d) (get_or mid i d)) at before)) one))
        go (inr other) = subst (λ (z : Share X Y t u). IsLookedAt (get_or shares s d) z) (sym (get_or-set_other mid k s y d other)) before

    pub looked_next : AreLookedAt shares (set mid k y)
    looked_next = record { count = length-set mid k y ∙ so_far.looked.count; each = looked_at }

    -- and no node of it can step
    module _ (stuck : Stuck y) where
      stuck_at : (j : ℕ) (d : Share X Y t u) → j < k + 1 → j < length (set mid k y) → Stuck (get_or (set mid k y) j d)
      stuck_at j d low l = go (cases_eq j k)
        where
          go : (j ≡ k) ⊎ (j ≡ k → ⊥) → Stuck (get_or (set mid k y) j d)
          go (inl at) = subst (λ (i : ℕ). Stuck (get_or (set mid k y) i d)) (sym at) (subst (λ (z : Share X Y t u). Stuck z) (sym (now_is d)) stuck)
          go (inr other) = subst (λ (z : Share X Y t u). Stuck z) (sym (get_or-set_other mid k j y d other)) (so_far.stuck j d (omega (arith, low, other)) (omega (arith, l, length-set mid k y)))

      pub stuck_next : AreStuckSoFar (k + 1) shares (set mid k y)
      stuck_next = record { looked = looked_next; stuck = stuck_at }
