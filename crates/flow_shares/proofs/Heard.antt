-- What a gate heard, turn after turn.
use Rattle.std.proofs.Common.{◌≡◌, ◌⊎◌, inl, inr, ◌+◌, ◌<◌, ℕ, sym, subst, arith}
use Rattle.std.proofs.lemmas.Bool.{cases_eq}

-- of each turn so far, and of the next one
pub heard_next : (Heard : ℕ → Type 0) (turn : ℕ) → ((before : ℕ) → before < turn → Heard before) → Heard turn → (number : ℕ) → number < turn + 1 → Heard number
heard_next Heard turn all next number below = by (cases_eq number turn)
  where
    by : ((number ≡ turn) ⊎ (number ≡ turn → ⊥)) → Heard number
    by (inl is) = subst Heard (sym is) next
    by (inr other) = all number (omega (arith, below, other))
