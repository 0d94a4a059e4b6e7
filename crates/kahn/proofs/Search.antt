-- A search below a bound, and a sum below a bound.
use Rattle.std.proofs.Common.{◌≡◌, ℕ, zero, suc, ◌+◌, ◌*◌, ◌<◌, ◌≤◌, ◌⊎◌, refl, inl, inr, arith, ap₂}
use Rattle.std.proofs.lemmas.Bool.{cases_eq}
use Rattle.kahn.specs.Basics.{total}

-- the least number below n at which P holds, or that there is none
pub search_below : (P : ℕ → Type 0) (n : ℕ) → ((i : ℕ) → i < n → P i ⊎ (P i → ⊥)) → ((i : ℕ) × (i < n) × P i × ((j : ℕ) → j < i → P j → ⊥)) ⊎ ((i : ℕ) → i < n → P i → ⊥)
search_below P zero decide = inr (λ i l p. absurd (omega arith))
search_below P (suc n) decide = last (search_below P n (λ i l. decide i (omega arith))) (decide n (omega arith))
  where
    last : ((i : ℕ) × (i < n) × P i × ((j : ℕ) → j < i → P j → ⊥)) ⊎ ((i : ℕ) → i < n → P i → ⊥) → P n ⊎ (P n → ⊥) →
        ((i : ℕ) × (i < suc n) × P i × ((j : ℕ) → j < i → P j → ⊥)) ⊎ ((i : ℕ) → i < suc n → P i → ⊥)
    last (inl (i, l, p, least)) here = inl (i, omega arith, p, least)
    last (inr none) (inl p) = inl (n, omega arith, p, none)
    last (inr none) (inr not) = inr (λ i l p. either i l p (cases_eq i n))
      where
        either : (i : ℕ) → i < suc n → P i → ((i ≡ n) ⊎ (i ≡ n → ⊥)) → ⊥
        either i l p (inl e) = not (rw e at p)
        either i l p (inr ne) = none i (omega arith) p

pub total_same : (f g : ℕ → ℕ) (n : ℕ) → ((i : ℕ) → i < n → f i ≡ g i) → total f n ≡ total g n
total_same f g zero same = refl
total_same f g (suc n) same = ap₂ (λ a b. a + b) (same n (omega arith)) (total_same f g n (λ i l. same i (omega arith)))

pub total_falls : (f g : ℕ → ℕ) (n i : ℕ) → i < n → f i ≡ suc (g i) → ((j : ℕ) → j < n → (j ≡ i → ⊥) → f j ≡ g j) → total f n ≡ suc (total g n)
total_falls f g zero i l one same = absurd (omega arith)
total_falls f g (suc n) i l one same = at (cases_eq n i) (λ h. total_falls f g n i h one (λ j k. same j (omega arith)))
  where
    at : ((n ≡ i) ⊎ (n ≡ i → ⊥)) → (i < n → total f n ≡ suc (total g n)) → f n + total f n ≡ suc (g n + total g n)
    at (inl e) below =
        let one_n : f n ≡ suc (g n) = rw e one in
        let rest : total f n ≡ total g n = total_same f g n (λ j k. same j (omega arith) (λ h. omega arith)) in
        omega arith
    at (inr ne) below =
        let rest : total f n ≡ suc (total g n) = below (omega arith) in
        let here : f n ≡ g n = same n (omega arith) ne in
        omega arith

pub total_less : (f g : ℕ → ℕ) (n : ℕ) → ((i : ℕ) → i < n → f i ≤ g i) → total f n ≤ total g n
total_less f g zero less = omega arith
total_less f g (suc n) less =
    let here : f n ≤ g n = less n (omega arith) in
    let rest : total f n ≤ total g n = total_less f g n (λ i l. less i (omega arith)) in
    omega arith

pub total_twice : (f g : ℕ → ℕ) (n : ℕ) → ((i : ℕ) → i < n → f i ≤ 2 * g i) → total f n ≤ 2 * total g n
total_twice f g zero less = omega arith
total_twice f g (suc n) less =
    let here : f n ≤ 2 * g n = less n (omega arith) in
    let rest : total f n ≤ 2 * total g n = total_twice f g n (λ i l. less i (omega arith)) in
    omega arith
