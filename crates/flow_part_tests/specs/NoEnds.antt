-- Shares that have no end of any edge.
use Rattle.std.specs.Prelude.{◌≡◌, ℕ, false}
use Rattle.flow_messages.specs.Ends.{View}

-- no end of any edge is there
abbrev pub HasNoEnds : View → Type 0
HasNoEnds v = (e : ℕ) → (v.writes e ≡ false) × (v.reads e ≡ false)
