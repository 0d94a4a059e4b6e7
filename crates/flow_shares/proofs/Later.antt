-- The same nodes later keep what hangs on their places alone.
use Rattle.std.proofs.Common.{◌≡◌, ℕ, suc, ◌<◌, true, List, [], ◌∷◌, length, get_or, set, map, ◌⊎◌, inl, inr, refl, sym, ◌∙◌, ap, subst, arith, get_or-set_same, get_or-set_other}
use Rattle.std.specs.List.{All}
use Rattle.std.proofs.lemmas.Bool.{cases_eq}
use Rattle.std.proofs.lemmas.List.{length-set}
use Rattle.std.proofs.lemmas.List.Elements.{at_read}
use Rattle.flow_messages.specs.Ends.{View, SameEnds}
use Rattle.flow_base.specs.declared.transducer.Transducer.{Ghosts}
use Rattle.flow_networks.specs.declared.placed.Placed.{Placed}
use Rattle.flow_networks.specs.Places.{IsSamePlace, placed_state}
use Rattle.flow_networks.specs.Skeletons.{AreSamePlaces}
use Rattle.flow_messages.proofs.Fitting.{takes_still}
use Rattle.flow_base.specs.Visits.{edge_of, TakeKinds}
use Rattle.flow_shares.specs.Shares.{StandOnce, inputs_of, outputs_of, HasItsEnds, AreApart}

-- lists that f does not tell apart
map_same : {X Y : Type 0} (f : X → Y) (xs ys : List X) → length ys ≡ length xs → ((k : ℕ) (d : X) → k < length xs → f (get_or ys k d) ≡ f (get_or xs k d)) → map f ys ≡ map f xs
map_same f [] [] even same = refl
map_same f [] (y ∷ ys) even same = absurd (omega (arith, even))
map_same f (x ∷ xs) [] even same = absurd (omega (arith, even))
map_same f (x ∷ xs) (y ∷ ys) even same =
    ap (λ z. z ∷ map f ys) (same 0 x (omega arith))
    ∙ ap (λ zs. f x ∷ zs) (map_same f xs ys (omega (arith, even)) (λ k d l. same (suc k) d (omega (arith, l))))

module _ {X : Type 0} {t : Ghosts X} where
  pub same_places_refl : (nodes : List (Placed X t)) → AreSamePlaces nodes nodes
  same_places_refl nodes = record { count = refl; each = λ k d l. record { number = refl; inputs = refl; outputs = refl; opening = refl } }

  pub same_place_then : (x y z : Placed X t) → IsSamePlace x y → IsSamePlace y z → IsSamePlace x z
  same_place_then x y z h g = record { number = g.number ∙ h.number; inputs = g.inputs ∙ h.inputs; outputs = g.outputs ∙ h.outputs; opening = g.opening ∙ h.opening }

  pub same_places_then : (nodes mid later : List (Placed X t)) → AreSamePlaces nodes mid → AreSamePlaces mid later → AreSamePlaces nodes later
  same_places_then nodes mid later h g = record {
    count = g.count ∙ h.count;
    each = λ k d l. same_place_then (get_or nodes k d) (get_or mid k d) (get_or later k d) (h.each k d l) (g.each k d (omega (arith, l, h.count)));
  }

  -- one of them is later
  module _ (nodes : List (Placed X t)) (k : ℕ) (x y : Placed X t) (inside : k < length nodes) (is : x ≡ get_or nodes k x) where
    pub it_is : (d : Placed X t) → get_or nodes k d ≡ x
    it_is d = at_read nodes (λ z. z ≡ x) k x inside is refl d

    pub now_is : (d : Placed X t) → get_or (set nodes k y) k d ≡ y
    now_is d = get_or-set_same nodes k y d inside

    pub same_places_set : IsSamePlace x y → AreSamePlaces nodes (set nodes k y)
    same_places_set same = record { count = length-set nodes k y; each = λ j d l. go j d (cases_eq j k) }
      where
        go : (j : ℕ) (d : Placed X t) → (j ≡ k) ⊎ (j ≡ k → ⊥) → IsSamePlace (get_or nodes j d) (get_or (set nodes k y) j d)
        go j d (inl at) =
            subst (λ (i : ℕ). IsSamePlace (get_or nodes i d) (get_or (set nodes k y) i d)) (sym at)
            (subst (λ (z : Placed X t). IsSamePlace z (get_or (set nodes k y) k d)) (sym (it_is d)) (subst (λ (z : Placed X t). IsSamePlace x z) (sym (now_is d)) same))
        go j d (inr ne) = subst (λ (z : Placed X t). IsSamePlace (get_or nodes j d) z) (sym (get_or-set_other nodes k j y d ne))
            (record { number = refl; inputs = refl; outputs = refl; opening = refl })

  module _ (nodes later : List (Placed X t)) (same : AreSamePlaces nodes later) where
    -- what holds of each node's edges does later
    pub all_inputs_later : (P : List ℕ → Type 0) → All (λ placed. P (inputs_of placed)) nodes → All (λ placed. P (inputs_of placed)) later
    all_inputs_later P all k d l = let l' : k < length nodes = omega (arith, l, same.count) in subst P (sym (same.each k d l').inputs) (all k d l')

    pub all_outputs_later : (P : List ℕ → Type 0) → All (λ placed. P (outputs_of placed)) nodes → All (λ placed. P (outputs_of placed)) later
    all_outputs_later P all k d l = let l' : k < length nodes = omega (arith, l, same.count) in subst P (sym (same.each k d l').outputs) (all k d l')

    pub apart_later : AreApart nodes → AreApart later
    apart_later apart = record {
      inputs = subst StandOnce (sym (map_same inputs_of nodes later same.count (λ k d l. (same.each k d l).inputs))) apart.inputs;
      outputs = subst StandOnce (sym (map_same outputs_of nodes later same.count (λ k d l. (same.each k d l).outputs))) apart.outputs;
    }

    -- the ends of the edges at their ports are still there
    pub there_later : (a v : View) → SameEnds a v → All (HasItsEnds a) nodes → All (HasItsEnds v) later
    there_later a v ends there k d l =
        let l' : k < length nodes = omega (arith, l, same.count) in
        let has = there k d l' in
        record {
          reads = subst (All (λ e. v.reads e ≡ true)) (sym (same.each k d l').inputs) (λ p e m. ends.reads _ ∙ has.reads p e m);
          writes = subst (All (λ e. v.writes e ≡ true)) (sym (same.each k d l').outputs) (λ p e m. ends.writes _ ∙ has.writes p e m);
          kinds =
              let b = t.behaviour in
              let one = get_or nodes k d in
              let other = get_or later k d in
              subst (λ os. TakeKinds os (b.kind_out (b.opening (placed_state other))) v) (sym (same.each k d l').outputs)
              (subst (λ o. TakeKinds (outputs_of one) (b.kind_out o) v) (sym (same.each k d l').opening)
              (λ q m. takes_still a v (edge_of (outputs_of one) q) (b.kind_out (b.opening (placed_state one)) q) ends (has.kinds q m)));
        }
