-- Edges after others, and the numbers of the edges at ports.
use Rattle.std.specs.Prelude.{◌≡◌, ℕ, ◌<◌, ◌≤◌, ◌==◌, ◌&&◌, Bool, true, false, List, [], ◌∷◌, ◌++◌, length}
use Rattle.std.specs.List.{position_or_len}
use Rattle.std.proofs.Common.{sym, subst, arith, get_or, inl, inr}
use Rattle.std.proofs.lemmas.Bool.{cases_eq, cases_lt}
use Rattle.std.proofs.lemmas.Bool.Decides.{nat_tests}
use Rattle.std.proofs.lemmas.List.{length_push, get_or_append_left}
use Rattle.std.proofs.lemmas.List.Folds.{position_or_len_push}
use Rattle.std.proofs.lemmas.List.Sums.{passes_at_first, fails_before_first}
use Rattle.std.proofs.Math.Seq.{get_or-append_seam}
use borrow.Author.Count.{below_more}

module _ {X : Type 0} where
  -- what holds of each, and of one more after them, holds of all
  pub each_push : (P : X → Type 0) (xs : List X) (y d : X) → ((e : ℕ) → e < length xs → P (get_or xs e d)) → P y → (e : ℕ) → e < length (xs ++ y ∷ []) → P (get_or (xs ++ y ∷ []) e d)
  each_push P xs y d all here e lt =
      below_more (λ k. P (get_or (xs ++ y ∷ []) k d)) (length xs) (λ k l. subst P (sym (get_or_append_left xs (y ∷ []) d k l)) (all k l))
      (subst P (sym (get_or-append_seam xs y [] d)) here) e (omega (arith, length_push xs y))

  module _ (p : X → Bool) (xs : List X) (y : X) where
    -- one that is found is found after more
    pub found_stays : position_or_len p xs < length xs → position_or_len p (xs ++ y ∷ []) < length (xs ++ y ∷ [])
    found_stays lt = let e = position_or_len_push p xs y in let l = length_push xs y in grind (arith, nat_tests)

    pub found_last : p y ≡ true → position_or_len p (xs ++ y ∷ []) < length (xs ++ y ∷ [])
    found_last is = elim (cases_lt (position_or_len p (xs ++ y ∷ [])) (length (xs ++ y ∷ []))) [
      | inl lt ↦ lt
      | inr le ↦
          let no : p (get_or (xs ++ y ∷ []) (length xs) y) ≡ false = fails_before_first p (xs ++ y ∷ []) (length xs) y (omega (arith, length_push xs y)) in
          let here : p y ≡ false = subst (λ x. p x ≡ false) (get_or-append_seam xs y [] y) no in
          absurd (cc)
    ]

    -- where none is found and the last is none, none is found
    pub none_stays : length xs ≤ position_or_len p xs → p y ≡ false → length (xs ++ y ∷ []) ≤ position_or_len p (xs ++ y ∷ [])
    none_stays none is = let e = position_or_len_push p xs y in let l = length_push xs y in grind (arith, nat_tests)

  pub none_found : (p : X → Bool) (xs : List X) (d : X) → ((e : ℕ) → e < length xs → p (get_or xs e d) ≡ false) → length xs ≤ position_or_len p xs
  none_found p xs d none = elim (cases_lt (position_or_len p xs) (length xs)) [
    | inl lt ↦ let yes = passes_at_first p xs d lt in let no = none (position_or_len p xs) lt in absurd (cc)
    | inr le ↦ le
  ]

-- two numbers are these, or are not
pub both_are : (a b k p : ℕ) → a ≡ k → b ≡ p → ((a == k) && (b == p)) ≡ true
both_are a b k p one other = grind (arith, nat_tests)

pub not_both : (a b k p : ℕ) → (a ≡ k → b ≡ p → ⊥) → ((a == k) && (b == p)) ≡ false
not_both a b k p differ = elim (cases_eq a k) [
  | inl same ↦ elim (cases_eq b p) [ inl too ↦ absurd (differ same too) | inr ne ↦ grind (arith, nat_tests) ]
  | inr ne ↦ grind (arith, nat_tests)
]
