-- Parts of sums, and places in lists of lists.
use Rattle.std.proofs.Common.{◌≡◌, ℕ, zero, suc, ◌+◌, ◌<◌, ◌≤◌, List, [], ◌∷◌, length, get_or, ◌⊎◌, inl, inr, refl, sym, ap, arith}
use Rattle.std.proofs.lemmas.Bool.{cases_eq}
use Rattle.std.specs.List.{All}
use Rattle.kahn.specs.Basics.{total}
use Rattle.flow_base.specs.Visits.{edge_of, IsNone}

-- some element of a list that has any
pub any_of : {A : Type 0} (xs : List A) (k : ℕ) → k < length xs → A
any_of [] k inside = absurd (omega arith)
any_of (x ∷ xs) k inside = x

-- a list of no length
pub no_length : {A : Type 0} (xs : List A) → length xs ≤ 0 → xs ≡ []
no_length [] none = refl
no_length (x ∷ xs) none = absurd (omega arith)

-- a sum is no less than each of its parts
pub part_of_total : (f : ℕ → ℕ) (n k : ℕ) → k < n → f k ≤ total f n
part_of_total f zero k inside = absurd (omega arith)
part_of_total f (suc n) k inside = at (cases_eq k n) (λ below. part_of_total f n k below)
  where
    at : ((k ≡ n) ⊎ (k ≡ n → ⊥)) → (k < n → f k ≤ total f n) → f k ≤ f n + total f n
    at (inl same) rest = omega (arith, ap f same)
    at (inr other) rest = let low : f k ≤ total f n = rest (omega arith) in omega arith

-- Edge e stands at place p of the row.
pub record StandsAt (row : List ℕ) (p e : ℕ) : Type 0 where
  pub inside : p < length row
  pub is : edge_of row p ≡ e

-- an edge stands at a place of the row, or is none of it
in_row : (row : List ℕ) (e : ℕ) → ((p : ℕ) × StandsAt row p e) ⊎ IsNone row e
in_row [] e = inr (λ k d inside. absurd (omega arith))
in_row (f ∷ row) e = at (cases_eq e f) (in_row row e)
  where
    neither : (e ≡ f → ⊥) → IsNone row e → IsNone (f ∷ row) e
    neither other none zero d inside = other
    neither other none (suc k) d inside = none k d (omega (arith, inside))

    at : ((e ≡ f) ⊎ (e ≡ f → ⊥)) → ((p : ℕ) × StandsAt row p e) ⊎ IsNone row e → ((p : ℕ) × StandsAt (f ∷ row) p e) ⊎ IsNone (f ∷ row) e
    at (inl same) rest = inl (0, record { inside = omega arith; is = sym same })
    at (inr other) (inl (p, stands)) = inl (suc p, record { inside = omega (arith, stands.inside); is = stands.is })
    at (inr other) (inr none) = inr (neither other none)

module _ {A : Type 0} (row : A → List ℕ) where
  -- Edge e stands at place p of the row of element i.
  pub record StandsIn (xs : List A) (e : ℕ) : Type 0 where
    pub i : ℕ
    pub p : ℕ
    pub inside : i < length xs
    pub stands : (d : A) → StandsAt (row (get_or xs i d)) p e

  -- an edge stands in the row of some element, or in none
  pub in_rows : (xs : List A) (e : ℕ) → StandsIn xs e ⊎ All (λ x. IsNone (row x) e) xs
  in_rows [] e = inr (λ k d inside. absurd (omega arith))
  in_rows (x ∷ xs) e = at (in_row (row x) e) (in_rows xs e)
    where
      neither : IsNone (row x) e → All (λ y. IsNone (row y) e) xs → All (λ y. IsNone (row y) e) (x ∷ xs)
      neither here rest zero d inside = here
      neither here rest (suc k) d inside = rest k d (omega (arith, inside))

      at : ((p : ℕ) × StandsAt (row x) p e) ⊎ IsNone (row x) e → StandsIn xs e ⊎ All (λ y. IsNone (row y) e) xs → StandsIn (x ∷ xs) e ⊎ All (λ y. IsNone (row y) e) (x ∷ xs)
      at (inl (p, stands)) rest = inl (record { i = 0; p = p; inside = omega arith; stands = λ d. stands })
      at (inr here) (inl further) = inl (record { i = suc further.i; p = further.p; inside = omega (arith, further.inside); stands = further.stands })
      at (inr here) (inr rest) = inr (neither here rest)
