-- One node more is dealt out, to its share.
use Rattle.std.proofs.Common.{◌≡◌, ℕ, ◌%◌, ◌<◌, ◌≤◌, ltb, cond, List, [], ◌∷◌, ◌++◌, length, get_or, set, replicate, ◌⊎◌, inl, inr, refl, sym, ◌∙◌, ap, subst, arith, get_or-set_same, get_or-set_other}
use Rattle.std.proofs.lemmas.Bool.{cases_eq, cases_lt, cond_below, cond_above}
use Rattle.std.specs.declared.vec.Vec.{Vec}
use Rattle.std.specs.List.{All}
use Rattle.std.proofs.lemmas.List.{get_or-map, map-set, length-map, length-set, length_push, get_or_push, get_or_append_left, get_or-replicate, length-replicate}
use Rattle.flow_base.specs.declared.transducer.Transducer.{Ghosts}
use Rattle.flow_networks.specs.declared.placed.Placed.{Placed}
use Rattle.flow_shares.specs.Deals.{share_of, lists_in, node_at, AreNumbered, AreJustDealt}

-- each share that is named is one of these
pub share_below : (share : List ℕ) (threads k : ℕ) {r : ℕ} → 0 < length share → All (λ s. s < threads) share → r ≡ share_of share k → r < threads
share_below share threads k some shares is = omega (arith, is, shares (k % length share) 0 (omega arith))

module _ {X : Type 0} {t : Ghosts X} where
  -- no node is dealt out to empty shares
  pub none_dealt : (share : List ℕ) (count : ℕ) → AreJustDealt {X = X} {t = t} share [] (replicate count [])
  none_dealt share count = record {
    place = λ _. 0;
    inside = λ k l. absurd (omega (arith, l));
    order = λ j k less l. absurd (omega (arith, l));
    here = λ k d l. absurd (omega (arith, l));
    back = λ s i d ls li. absurd (omega (arith, li, ap length (get_or-replicate {A = List (Placed X t)} count s [] [] (omega (arith, ls, length-replicate {A = List (Placed X t)} count [])))));
  }

  module _ (share : List ℕ) (nodes : List (Placed X t)) (dealt : List (List (Placed X t))) (node : Placed X t) (was : AreJustDealt share nodes dealt)
      (number : node.number ≡ length nodes) (there : share_of share (length nodes) < length dealt) where
    abbrev n : ℕ
    n = length nodes

    -- its share, before and then
    abbrev s : ℕ
    s = share_of share n

    abbrev old : List (Placed X t)
    old = get_or dealt s []

    abbrev then : List (List (Placed X t))
    then = set dealt s (old ++ node ∷ [])

    abbrev all : List (Placed X t)
    all = nodes ++ node ∷ []

    place : ℕ → ℕ
    place k = cond (ltb k n) (was.place k) (length old)

    place_below : (k : ℕ) → k < n → place k ≡ was.place k
    unfolding place
    place_below k l = sym (cond_below k n (was.place k) (length old) l)

    place_last : (k : ℕ) → k ≡ n → place k ≡ length old
    unfolding place
    place_last k e = sym (cond_above k n (was.place k) (length old) (length old) (omega (arith, e)) refl)

    at_share : get_or then s [] ≡ old ++ node ∷ []
    at_share = get_or-set_same dealt s (old ++ node ∷ []) [] there

    -- which node is at each place
    which : (k : ℕ) → k < length all → (k < n) ⊎ (k ≡ n)
    which k l = go (cases_lt k n)
      where
        go : (k < n) ⊎ (n ≤ k) → (k < n) ⊎ (k ≡ n)
        go (inl less) = inl less
        go (inr more) = inr (omega (arith, more, l, length_push nodes node))

    -- what was there is still there
    kept : (r i : ℕ) (d : Placed X t) → i < length (get_or dealt r []) → (i < length (get_or then r [])) × (node_at then r i d ≡ node_at dealt r i d)
    kept r i d l = go (cases_eq r s)
      where
        go : (r ≡ s) ⊎ (r ≡ s → ⊥) → (i < length (get_or then r [])) × (node_at then r i d ≡ node_at dealt r i d)
        go (inl e) =
            let here : get_or then r [] ≡ get_or dealt r [] ++ node ∷ [] = subst (λ q. get_or then q [] ≡ get_or dealt q [] ++ node ∷ []) (sym e) at_share in
            (omega (arith, l, ap length here, length_push (get_or dealt r []) node), ap (λ (ns : List (Placed X t)). get_or ns i d) here ∙ get_or_append_left (get_or dealt r []) (node ∷ []) d i l)
        go (inr other) =
            let here : get_or then r [] ≡ get_or dealt r [] = get_or-set_other dealt s r (old ++ node ∷ []) [] other in
            (omega (arith, l, ap length here), ap (λ (ns : List (Placed X t)). get_or ns i d) here)

    more_inside : (k : ℕ) → k < length all → (share_of share k < length then) × (place k < length (get_or then (share_of share k) []))
    more_inside k l = go (which k l)
      where
        go : (k < n) ⊎ (k ≡ n) → (share_of share k < length then) × (place k < length (get_or then (share_of share k) []))
        go (inl less) =
            let h = was.inside k less in
            (omega (arith, h.0, length-set dealt s (old ++ node ∷ [])), omega (arith, place_below k less, (kept (share_of share k) (was.place k) node h.1).0))
        go (inr e) =
            subst (λ m. (share_of share m < length then) × (place m < length (get_or then (share_of share m) []))) (sym e)
            (omega (arith, there, length-set dealt s (old ++ node ∷ [])), omega (arith, place_last n refl, ap length at_share, length_push old node))

    more_order : (j k : ℕ) → j < k → k < length all → share_of share j ≡ share_of share k → place j < place k
    more_order j k less l shares = go (which k l)
      where
        go : (k < n) ⊎ (k ≡ n) → place j < place k
        go (inl lk) = omega (arith, place_below k lk, place_below j (omega (arith, lk, less)), was.order j k less lk shares)
        go (inr e) =
            let lj : j < n = omega (arith, less, e) in
            let same : share_of share j ≡ s = shares ∙ ap (share_of share) e in
            omega (arith, place_below j lj, place_last k e, (was.inside j lj).1, ap (λ r. length (get_or dealt r [])) same)

    more_here : (k : ℕ) (d : Placed X t) → k < length all → get_or all k d ≡ node_at then (share_of share k) (place k) d
    more_here k d l = go (which k l)
      where
        go : (k < n) ⊎ (k ≡ n) → get_or all k d ≡ node_at then (share_of share k) (place k) d
        go (inl less) =
            get_or_append_left nodes (node ∷ []) d k less
            ∙ was.here k d less
            ∙ sym (kept (share_of share k) (was.place k) d (was.inside k less).1).1
            ∙ ap (λ i. node_at then (share_of share k) i d) (sym (place_below k less))
        go (inr e) =
            get_or_push nodes node d k (sym e)
            ∙ sym (get_or_push old node d (length old) refl)
            ∙ ap (λ (ns : List (Placed X t)). get_or ns (length old) d) (sym at_share)
            ∙ ap (λ i. node_at then s i d) (sym (place_last k e))
            ∙ ap (λ m. node_at then (share_of share m) (place k) d) (sym e)

    abbrev IsBack : ℕ → ℕ → ℕ → Type 0
    IsBack r i k = (k < length all) × (share_of share k ≡ r) × (place k ≡ i)

    back_old : (r i : ℕ) (d : Placed X t) → r < length dealt → i < length (get_or dealt r []) → IsBack r i (node_at then r i d).number
    back_old r i d lr li =
        let b = was.back r i d lr li in
        subst (λ (e : Placed X t). IsBack r i e.number) (sym (kept r i d li).1)
        (omega (arith, b.0, length_push nodes node), b.1, place_below (node_at dealt r i d).number b.0 ∙ b.2)

    back_new : (d : Placed X t) → IsBack s (length old) (node_at then s (length old) d).number
    back_new d =
        let is : node_at then s (length old) d ≡ node = ap (λ (ns : List (Placed X t)). get_or ns (length old) d) at_share ∙ get_or_push old node d (length old) refl in
        subst (λ k. IsBack s (length old) k) (sym (ap (λ (e : Placed X t). e.number) is ∙ number))
        (omega (arith, length_push nodes node), refl, place_last n refl)

    more_back : (r i : ℕ) (d : Placed X t) → r < length then → i < length (get_or then r []) → IsBack r i (node_at then r i d).number
    more_back r i d lr li = go (cases_eq r s) (cases_lt i (length (get_or dealt r [])))
      where
        within : r < length dealt
        within = omega (arith, lr, length-set dealt s (old ++ node ∷ []))

        go : (r ≡ s) ⊎ (r ≡ s → ⊥) → (i < length (get_or dealt r [])) ⊎ (length (get_or dealt r []) ≤ i) → IsBack r i (node_at then r i d).number
        go same (inl less) = back_old r i d within less
        go (inr other) (inr more) = absurd (omega (arith, li, more, ap length (get_or-set_other dealt s r (old ++ node ∷ []) [] other)))
        go (inl e) (inr more) =
            let last : i ≡ length old = omega (arith, li, more, ap (λ q. length (get_or then q [])) e, ap (λ q. length (get_or dealt q [])) e, ap length at_share, length_push old node) in
            subst (λ q. IsBack q i (node_at then q i d).number) (sym e) (subst (λ j. IsBack s j (node_at then s j d).number) (sym last) (back_new d))

    pub one_more : AreJustDealt share all then
    one_more = record { place = place; inside = more_inside; order = more_order; here = more_here; back = more_back }

  -- one turn of the loop that deals nodes out
  pub one_turn : {Z : Type 0} (share : List ℕ) (nodes before : List (Placed X t)) (node : Placed X t) (dealt : List (Vec (Placed X t) Z)) (list new : Vec (Placed X t) Z) (r : ℕ)
      → AreNumbered nodes → length before < length nodes → node ≡ get_or nodes (length before) node
      → r ≡ share_of share node.number → r < length dealt → list ≡ get_or dealt r list → new.items ≡ list.items ++ node ∷ []
      → AreJustDealt share before (lists_in dealt) → AreJustDealt share (before ++ node ∷ []) (lists_in (set dealt r new))
  one_turn {Z} share nodes before node dealt list new r numbered more is share_is there list_is new_is was =
      let number : node.number ≡ length before =
      ap (λ (e : Placed X t). e.number) is
      ∙ sym (get_or-map (λ (e : Placed X t). e.number) nodes (length before) node 0 more)
      ∙ numbered (length before) more in
      let r_is : r ≡ share_of share (length before) = share_is ∙ ap (share_of share) number in
      let items_are : get_or (lists_in dealt) r [] ≡ list.items =
      get_or-map (λ (v : Vec (Placed X t) Z). v.items) dealt r list [] there
      ∙ ap (λ (v : Vec (Placed X t) Z). v.items) (sym list_is) in
      let lists_are : lists_in (set dealt r new) ≡ set (lists_in dealt) r (get_or (lists_in dealt) r [] ++ node ∷ []) =
      map-set (λ (v : Vec (Placed X t) Z). v.items) dealt r new
      ∙ ap (set (lists_in dealt) r) (new_is ∙ ap (λ ns. ns ++ node ∷ []) (sym items_are)) in
      subst (AreJustDealt share (before ++ node ∷ []))
      (sym (lists_are ∙ ap (λ q. set (lists_in dealt) q (get_or (lists_in dealt) q [] ++ node ∷ [])) r_is))
      (one_more share before (lists_in dealt) node was number (omega (arith, there, r_is, length-map dealt (λ (v : Vec (Placed X t) Z). v.items))))
