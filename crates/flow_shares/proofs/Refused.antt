-- Calls that say which error they give where a start was refused.
use Rattle.std.proofs.Common.{◌≡◌, ◌⊎◌, inl, inr, Ok, Err}

-- A call that gave something had no start refused that was not refused before.
pub none_refused : {A E New Old : Type 0} (x : A) (e : E) → (New → Old ⊎ (Ok x ≡ Err e)) → New → Old
none_refused {A} {E} {New} {Old} x e said now = by (said now)
  where
    by : Old ⊎ (Ok x ≡ Err e) → Old
    by (inl before) = before
    by (inr is) = absurd (cc is)
