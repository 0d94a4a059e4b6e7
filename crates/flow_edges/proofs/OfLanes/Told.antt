-- What the readers of a share have told.
use Rattle.std.proofs.Common.{◌≡◌, ◌≢◌, ℕ, ◌+◌, ◌<◌, ◌≤◌, length, sym, subst, arith, inl, inr, ◌⊎◌}
use Rattle.std.proofs.lemmas.Bool.{cases_lt}
use Rattle.std.proofs.lemmas.List.{get_or_past}
use Rattle.std.specs.Prelude.{None}
use Rattle.flow_edges.specs.declared.lanes.rings.Rings.{Rings}
use Rattle.flow_edges.specs.lanes.Rings.{reader_at, ToldAt}

-- one more has told, and the others are as they were
pub told_more : (a b : Rings) (e : ℕ) → ((k : ℕ) → k < e → ToldAt (reader_at a k)) → ((k : ℕ) → k ≢ e → reader_at b k ≡ reader_at a k) →
    ToldAt (reader_at b e) → (k : ℕ) → k < e + 1 → ToldAt (reader_at b k)
told_more a b e told others last k low = by_order (cases_lt k e) where
  by_order : (k < e) ⊎ (e ≤ k) → ToldAt (reader_at b k)
  by_order (inl before) = subst ToldAt (sym (others k (λ is. omega (arith, before, is)))) (told k before)
  by_order (inr after) =
      let is : e ≡ k = omega (arith, low, after) in
      subst (λ n. ToldAt (reader_at b n)) is last

-- all that are there have told
pub told_all : (t : Rings) (n : ℕ) → length t.readers.items ≤ n → ((k : ℕ) → k < n → ToldAt (reader_at t k)) → (k : ℕ) → ToldAt (reader_at t k)
told_all t n all told k = by_order (cases_lt k n) where
  by_order : (k < n) ⊎ (n ≤ k) → ToldAt (reader_at t k)
  by_order (inl low) = told k low
  by_order (inr past) =
      let none = get_or_past t.readers.items k None (omega (arith, all, past)) in
      subst ToldAt (sym none) tt
