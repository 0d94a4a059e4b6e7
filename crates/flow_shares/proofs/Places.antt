-- Which node lies where.
use Rattle.std.proofs.Common.{◌≡◌, ℕ, zero, suc, ◌+◌, ◌<◌, ◌≤◌, List, [], ◌∷◌, length, get_or, ◌⊎◌, inl, inr, refl, sym, ◌∙◌, ap, subst, arith}
use Rattle.std.proofs.lemmas.Bool.{cases_lt, cases_order}
use Rattle.std.proofs.lemmas.List.{get_or_default}
use Rattle.flow_base.specs.declared.transducer.Transducer.{Ghosts}
use Rattle.flow_networks.specs.declared.placed.Placed.{Placed}
use Rattle.flow_shares.specs.Deals.{share_of, node_at, AreDealtBy, AreJustDealt}

-- each element made anew from its index, counted from n, and what it was
abbrev pub anew : {X : Type 0} → (ℕ → X → X) → ℕ → List X → List X
anew f n [] = []
anew f n (x ∷ xs) = f n x ∷ anew f (suc n) xs

pub length-anew : {X : Type 0} (f : ℕ → X → X) (n : ℕ) (xs : List X) → length (anew f n xs) ≡ length xs
length-anew f n [] = refl
length-anew f n (x ∷ xs) = ap suc (length-anew f (suc n) xs)

get_or-anew : {X : Type 0} (f : ℕ → X → X) (n : ℕ) (xs : List X) (k : ℕ) (d : X) → k < length xs → get_or (anew f n xs) k d ≡ f (n + k) (get_or xs k d)
get_or-anew f n [] k d l = absurd (omega (arith, l))
get_or-anew f n (x ∷ xs) zero d l = ap (λ m. f m x) (omega arith)
get_or-anew f n (x ∷ xs) (suc k) d l = get_or-anew f (suc n) xs k d (omega (arith, l)) ∙ ap (λ m. f m (get_or xs k d)) (omega arith)

module _ {X : Type 0} {t : Ghosts X} (R : Placed X t → Placed X t → Type 0) (share : List ℕ) (nodes : List (Placed X t)) (dealt : List (List (Placed X t))) (are : AreDealtBy R share nodes dealt) where
  -- no two nodes lie at one place of a share
  pub apart : (j k : ℕ) → j < length nodes → k < length nodes → share_of share j ≡ share_of share k → are.place j ≡ are.place k → j ≡ k
  apart j k lj lk shares places = go (cases_order j k)
    where
      go : (j ≡ k) ⊎ ((j < k) ⊎ (k < j)) → j ≡ k
      go (inl e) = e
      go (inr (inl less)) = absurd (omega (arith, are.order j k less lk shares, places))
      go (inr (inr more)) = absurd (omega (arith, are.order k j more lj (sym shares), places))

  -- the node at the place of k has number k
  pub named : (k : ℕ) (d : Placed X t) → k < length nodes → (node_at dealt (share_of share k) (are.place k) d).number ≡ k
  named k d l =
      let h = are.inside k l in
      let b = are.back (share_of share k) (are.place k) d h.0 h.1 in
      apart (node_at dealt (share_of share k) (are.place k) d).number k b.0 l b.1 b.2

  -- the nodes that lie at the places, in the order of their numbers
  pub found : List (Placed X t)
  found = anew (λ k d. node_at dealt (share_of share k) (are.place k) d) 0 nodes

  pub length-found : length found ≡ length nodes
  unfolding found
  length-found = length-anew (λ k d. node_at dealt (share_of share k) (are.place k) d) 0 nodes

  found_here : (k : ℕ) (d : Placed X t) → k < length found → get_or found k d ≡ node_at dealt (share_of share k) (are.place k) d
  unfolding found
  found_here k d l =
      let within : k < length nodes = omega (arith, l, length-found) in
      get_or-anew (λ m e. node_at dealt (share_of share m) (are.place m) e) 0 nodes k d within
      ∙ ap (λ m. node_at dealt (share_of share m) (are.place m) (get_or nodes k d)) (omega arith)
      ∙ get_or_default (get_or dealt (share_of share k) []) (are.place k) (get_or nodes k d) d (are.inside k within).1

  -- just they were dealt out
  pub found_are : AreJustDealt share found dealt
  found_are = record {
    place = are.place;
    inside = λ k l. are.inside k (omega (arith, l, length-found));
    order = λ j k l lk. are.order j k l (omega (arith, lk, length-found));
    here = found_here;
    back = λ s i d ls li. let b = are.back s i d ls li in (omega (arith, b.0, length-found), b.1, b.2);
  }

  module _ (Q : Placed X t → Placed X t → Type 0) (others : List (Placed X t)) (theirs : AreDealtBy Q share others dealt) where
    -- other nodes that were dealt out so have the same numbers, and no other place
    number_below : (k : ℕ) (d : Placed X t) → k < length nodes → (k < length others) × (theirs.place k ≡ are.place k)
    number_below k d l =
        let h = are.inside k l in
        let b = theirs.back (share_of share k) (are.place k) d h.0 h.1 in
        let number = named k d l in
        (subst (λ m. m < length others) number b.0, ap theirs.place (sym number) ∙ b.2)

  -- as many as others that were dealt out so
  pub as_many : (Q : Placed X t → Placed X t → Type 0) (others : List (Placed X t)) → AreDealtBy Q share others dealt → (d : Placed X t) → length nodes ≤ length others
  as_many Q others theirs d = go (cases_lt (length others) (length nodes))
    where
      go : (length others < length nodes) ⊎ (length nodes ≤ length others) → length nodes ≤ length others
      go (inl more) = absurd (omega (arith, (number_below Q others theirs (length others) d more).0))
      go (inr l) = l

  -- they are to nodes that were just dealt out so what they are to those that lie at the places
  pub gathered : (others : List (Placed X t)) → AreJustDealt share others dealt → (k : ℕ) (d : Placed X t) → k < length nodes → R (get_or nodes k d) (get_or others k d)
  gathered others just k d l =
      let same = number_below ◌≡◌ others just k d l in
      let is : get_or others k d ≡ node_at dealt (share_of share k) (are.place k) d = just.here k d same.0 ∙ ap (λ i. node_at dealt (share_of share k) i d) same.1 in
      subst (λ e. R (get_or nodes k d) e) (sym is) (are.here k d l)

module _ {X : Type 0} {t : Ghosts X} (share : List ℕ) (dealt : List (List (Placed X t))) where
  -- all that were dealt out so are equally many
  pub equally_many : (R Q : Placed X t → Placed X t → Type 0) (nodes others : List (Placed X t)) → AreDealtBy R share nodes dealt → AreDealtBy Q share others dealt → length others ≡ length nodes
  equally_many R Q [] [] are theirs = refl
  equally_many R Q [] (x ∷ xs) are theirs = absurd (omega (arith, as_many Q share (x ∷ xs) dealt theirs R [] are x))
  equally_many R Q (x ∷ xs) others are theirs = omega (arith, as_many R share (x ∷ xs) dealt are Q others theirs x, as_many Q share others dealt theirs R (x ∷ xs) are x)
