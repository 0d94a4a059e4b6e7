-- Both ends of each edge, seen at once.
use Rattle.std.specs.Prelude.{◌≡◌, ℕ, ◌+◌, ◌-◌, true, List, ◌++◌, length, drop}
use Rattle.flow_messages.specs.Signals.{Signal, orderly}
use Rattle.flow_messages.specs.Ends.{View, held, Put, Taken}

-- what was sent on edge e and not received, the oldest first
abbrev pub waiting : View → ℕ → List Signal
waiting v e = drop (length (v.received e)) (v.sent e)

-- how many messages were sent on edge e and not received
abbrev pub unreceived_count : View → ℕ → ℕ
unreceived_count v e = length (v.sent e) - length (v.received e)

-- Both ends of each edge are there, and an edge holds at most `capacity` messages.
pub record IsWhole (capacity : ℕ) (v : View) : Type 0 where
  -- the writer is there where the reader is
  pub both : (e : ℕ) → v.reads e ≡ v.writes e
  -- what was received and what waits is what was sent
  pub in_order : (e : ℕ) → v.received e ++ waiting v e ≡ v.sent e
  -- what the next takes give is what waits
  pub coming : (e : ℕ) → v.coming e ≡ waiting v e
  -- what is not held is room
  pub room : (e : ℕ) → v.writes e ≡ true → v.room e + held v e ≡ capacity
  -- nothing was sent after a stop
  pub orderly : (e : ℕ) → orderly (v.sent e) ≡ true

-- P holds of each edge, where both ends are seen
abbrev pub EachWhole : (ℕ → View → ℕ → Type 0) → Type 0
EachWhole P = (capacity : ℕ) (v : View) (e : ℕ) → IsWhole capacity v → P capacity v e

-- P holds of each edge to which may be written, where both ends are seen
abbrev pub EachWritten : (ℕ → View → ℕ → Type 0) → Type 0
EachWritten P = (capacity : ℕ) (v : View) (e : ℕ) → IsWhole capacity v → v.writes e ≡ true → P capacity v e

-- P holds of each put, where both ends are seen
abbrev pub EachPut : (View → ℕ → Signal → View → Type 0) → Type 0
EachPut P = (capacity : ℕ) (a b : View) (e : ℕ) (m : Signal) → IsWhole capacity a → IsWhole capacity b → Put a e m b → P a e m b

-- P holds of each take
abbrev pub EachTake : (View → ℕ → Signal → View → Type 0) → Type 0
EachTake P = (a b : View) (e : ℕ) (m : Signal) → Taken a e m b → P a e m b

-- P holds of each take, where both ends are seen
abbrev pub EachWholeTake : (View → ℕ → Signal → View → Type 0) → Type 0
EachWholeTake P = (capacity : ℕ) (a b : View) (e : ℕ) (m : Signal) → IsWhole capacity b → Taken a e m b → P a e m b
