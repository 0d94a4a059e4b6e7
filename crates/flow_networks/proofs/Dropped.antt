-- Lists from which some numbers were dropped.
use Rattle.std.proofs.Common.{◌≡◌, ◌⊎◌, ℕ, ◌<◌, ◌≤◌, List, length, get_or, take, inl, inr, sym, ap, subst, ◌∙◌, arith}
use Rattle.std.specs.List.{Contains}
use Rattle.std.proofs.lemmas.List.{length-take, get_or-take}

-- what is so of the first `kept` numbers is so of all that are left
pub below_left : (Below : ℕ → Type 0) (now left : List ℕ) (kept : ℕ) → left ≡ take kept now → ((j d : ℕ) → j < kept → Below (get_or now j d)) → (k d : ℕ) → k < length left → Below (get_or left k d)
below_left Below now left kept is below k d l =
    let first : k < kept = omega (arith, l, ap length is, length-take kept now) in
    subst Below (sym (ap (λ xs. get_or xs k d) is ∙ get_or-take kept now k d first)) (below k d first)

module _ (Over : ℕ → Type 0) (old now left : List ℕ) (kept : ℕ) where
  -- each number is among those that are left, or it is over
  pub left_or_over : left ≡ take kept now → kept ≤ length now
      → ((j d : ℕ) → j < length old → ((m : ℕ) × (m < kept) × (get_or now m d ≡ get_or old j d)) ⊎ Over (get_or old j d))
      → (k : ℕ) → Contains old k → Contains left k ⊎ Over k
  left_or_over is few seen k (j, l, at) = cases (seen j k l) where
    cases : ((m : ℕ) × (m < kept) × (get_or now m k ≡ get_or old j k)) ⊎ Over (get_or old j k) → Contains left k ⊎ Over k
    cases (inl (m, first, same)) = inl (m, omega (arith, first, few, ap length is, length-take kept now), ap (λ xs. get_or xs m k) is ∙ get_or-take kept now m k first ∙ same ∙ at)
    cases (inr over) = inr (subst Over at over)
