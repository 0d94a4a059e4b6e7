-- What a contract sees of the ends of a set of edges, each by its number.
use Rattle.std.specs.Prelude.{◌≡◌, ◌≢◌, ℕ, ◌+◌, ◌≤◌, Bool, true, false, cond, List, [], ◌∷◌, ◌++◌, length, take, Option}
use mathlib.Core.List.{IsPrefix}
use Rattle.arrayvec.specs.ArrayVec.{ArrayVec}
use Rattle.flow_messages.specs.declared.message.Kind.{Kind}
use Rattle.flow_messages.specs.declared.message.Msg.{Msg}
use Rattle.flow_messages.specs.declared.ends.Refused.{Refused}
use Rattle.flow_messages.specs.declared.flat.Flat.{Flat}
use Rattle.flow_messages.specs.Signals.{Signal, ended}
use Rattle.flow_messages.specs.Flats.{flat_signals, flats_appended, scalar_first}

pub record View : Type 0 where
  pub sent : ℕ → List Signal  -- what was put, the oldest first
  pub received : ℕ → List Signal  -- what was taken, the oldest first
  pub coming : ℕ → List Signal  -- what the next takes are certain to give, the oldest first
  pub room : ℕ → ℕ  -- how many puts are certain of room
  pub kind : ℕ → Option Kind  -- the kind of the items that may be put, or none where each may be
  pub writes : ℕ → Bool  -- whether the writer's end is there
  pub reads : ℕ → Bool  -- whether the reader's end is there

-- how many takes from edge e are certain to give a message
abbrev pub held : View → ℕ → ℕ
held v e = length (v.coming e)

-- the end of the stream was put on edge e
abbrev pub HasEnded : View → ℕ → Type 0
HasEnded v e = ended (v.sent e) ≡ true

-- it was not
abbrev pub HasNotEnded : View → ℕ → Type 0
HasNotEnded v e = ended (v.sent e) ≡ false

-- edge e has not ended, and is certain of room for n messages more
abbrev pub CanPut : View → ℕ → ℕ → Type 0
CanPut v e n = HasNotEnded v e × (n ≤ v.room e)

-- the message that the next take from edge e is certain to give is no vector
abbrev pub ScalarIsNext : View → ℕ → Type 0
ScalarIsNext v e = scalar_first (v.coming e) ≡ true

-- no message is certain to come next on edge e, or the next is a vector
abbrev pub NoScalarIsNext : View → ℕ → Type 0
NoScalarIsNext v e = scalar_first (v.coming e) ≡ false

-- the same ends are there
pub record SameEnds (a b : View) : Type 0 where
  pub kinds : (k : ℕ) → b.kind k ≡ a.kind k
  pub writes : (k : ℕ) → b.writes k ≡ a.writes k
  pub reads : (k : ℕ) → b.reads k ≡ a.reads k

-- nothing was put or taken
pub record SameTraffic (a b : View) : Type 0 where
  pub sent : (k : ℕ) → b.sent k ≡ a.sent k
  pub received : (k : ℕ) → b.received k ≡ a.received k

-- the writer of edge e looked for room, and may have found more
pub record LookedForRoom (a : View) (e : ℕ) (b : View) : Type 0 where
  pub ends : SameEnds a b
  pub traffic : SameTraffic a b
  pub coming : (k : ℕ) → b.coming k ≡ a.coming k
  pub room : (k : ℕ) → k ≢ e → b.room k ≡ a.room k
  pub more : a.room e ≤ b.room e

-- the reader of edge e looked for messages, and may have found more after those that were certain
pub record LookedForMessages (a : View) (e : ℕ) (b : View) : Type 0 where
  pub ends : SameEnds a b
  pub traffic : SameTraffic a b
  pub room : (k : ℕ) → b.room k ≡ a.room k
  pub coming : (k : ℕ) → k ≢ e → b.coming k ≡ a.coming k
  pub more : IsPrefix (a.coming e) (b.coming e)

-- m was put on edge e
pub record Put (a : View) (e : ℕ) (m : Signal) (b : View) : Type 0 where
  pub ends : SameEnds a b
  pub sent : b.sent e ≡ a.sent e ++ m ∷ []
  pub others : (k : ℕ) → k ≢ e → b.sent k ≡ a.sent k
  pub received : (k : ℕ) → b.received k ≡ a.received k
  pub coming : (k : ℕ) → k ≢ e → b.coming k ≡ a.coming k
  pub coming_here : IsPrefix (a.coming e) (b.coming e)
  pub room : (k : ℕ) → k ≢ e → b.room k ≡ a.room k
  pub room_here : a.room e ≤ b.room e + 1

-- m was taken from edge e: the first of what was certain, where anything was
pub record Taken (a : View) (e : ℕ) (m : Signal) (b : View) : Type 0 where
  pub ends : SameEnds a b
  pub received : b.received e ≡ a.received e ++ m ∷ []
  pub others : (k : ℕ) → k ≢ e → b.received k ≡ a.received k
  pub sent : (k : ℕ) → b.sent k ≡ a.sent k
  pub room : (k : ℕ) → k ≢ e → b.room k ≡ a.room k
  pub room_here : a.room e ≤ b.room e
  pub coming : (k : ℕ) → k ≢ e → b.coming k ≡ a.coming k
  pub coming_here : IsPrefix (a.coming e) (m ∷ b.coming e)

-- these messages were taken from edge e, in order: the first of what was certain
pub record TakenAll (a : View) (e : ℕ) (ms : List Signal) (b : View) : Type 0 where
  pub ends : SameEnds a b
  pub received : b.received e ≡ a.received e ++ ms
  pub others : (k : ℕ) → k ≢ e → b.received k ≡ a.received k
  pub sent : (k : ℕ) → b.sent k ≡ a.sent k
  pub room : (k : ℕ) → k ≢ e → b.room k ≡ a.room k
  pub room_here : a.room e ≤ b.room e
  pub coming : (k : ℕ) → k ≢ e → b.coming k ≡ a.coming k
  pub coming_here : IsPrefix (a.coming e) (ms ++ b.coming e)

-- these messages were put on edge e, in order, unless it had ended
pub record PutAll (a : View) (e : ℕ) (ms : List Signal) (b : View) : Type 0 where
  pub ends : SameEnds a b
  pub sent : b.sent e ≡ cond (ended (a.sent e)) (a.sent e) (a.sent e ++ ms)
  pub others : (k : ℕ) → k ≢ e → b.sent k ≡ a.sent k
  pub received : (k : ℕ) → b.received k ≡ a.received k
  pub coming : (k : ℕ) → k ≢ e → b.coming k ≡ a.coming k
  pub coming_here : IsPrefix (a.coming e) (b.coming e)
  pub room : (k : ℕ) → k ≢ e → b.room k ≡ a.room k
  pub room_here : a.room e ≤ b.room e + length ms

-- m came back, and the writer of edge e looked for room
abbrev pub GivesBack : Msg → View → ℕ → View → Refused → Type 0
GivesBack m a e b refused = (refused.message ≡ m) × LookedForRoom a e b

-- the reader of edge e looked for messages, and none is certain
abbrev pub FoundNone : View → ℕ → View → Type 0
FoundNone a e b = LookedForMessages a e b × (held b e ≡ 0)

-- the first n of what was certain were taken from edge e
abbrev pub TakenFirst : View → ℕ → ℕ → View → Type 0
TakenFirst a e n b = TakenAll a e (take n (a.coming e)) b

-- what was appended to a block was taken from edge e, in order
abbrev pub TakenInto : View → ℕ → ArrayVec Flat → ArrayVec Flat → View → Type 0
TakenInto a e before after b = TakenAll a e (flat_signals (flats_appended before after)) b

-- these scalar messages were put on edge e, in order, unless it had ended
abbrev pub PutFlats : View → ℕ → List Flat → View → Type 0
PutFlats a e xs b = PutAll a e (flat_signals xs) b

-- what was sent on edge e is what was sent before, and then these scalar messages
abbrev pub SentFlats : View → ℕ → List Flat → View → Type 0
SentFlats a e xs b = b.sent e ≡ a.sent e ++ flat_signals xs
