-- What a contract sees of the two ends of a lane.
use Rattle.std.specs.Prelude.{◌≡◌, ℕ, ◌+◌, ◌≤◌, true, false, List, [], ◌∷◌, ◌++◌, length, Option, Some, ⊤}
use mathlib.Core.List.{IsPrefix}
use Rattle.flow_messages.specs.declared.message.Kind.{Kind}
use Rattle.flow_messages.specs.declared.message.Msg.{Msg}
use Rattle.flow_messages.specs.Signals.{signals, ended}
use Rattle.flow_messages.specs.Stores.{content_of}
use Rattle.flow_rings.specs.Edge as ring
use Rattle.flow_words.specs.Edge as words
use Rattle.flow_edges.specs.declared.lanes.ends.LaneWriter.{LaneWriter}
use Rattle.flow_edges.specs.declared.lanes.ends.LaneWriter.TheVariants.{Messages as MessagesTo, Scalars as ScalarsTo}
use Rattle.flow_edges.specs.declared.lanes.ends.LaneReader.{LaneReader}
use Rattle.flow_edges.specs.declared.lanes.ends.LaneReader.TheVariants.{Messages as MessagesFrom, Scalars as ScalarsFrom}
use Rattle.flow_edges.specs.lanes.Many.{many_messages}
use Rattle.flow_edges.specs.lanes.Counted.{put_by, sure_room}
use Rattle.flow_edges.specs.lanes.Taken.{taken_from, held_in, HasTold, SamePocket}

-- every message put so far, the oldest first
abbrev pub sent : LaneWriter → List Msg
sent (MessagesTo w) = ring.sent w
sent (ScalarsTo w) = put_by w

-- how many puts are certain of room
abbrev pub certain_room : LaneWriter → ℕ
certain_room (MessagesTo w) = ring.certain_room w
certain_room (ScalarsTo w) = sure_room w

-- how many messages the lane holds at most
abbrev pub edge_capacity : LaneWriter → ℕ
edge_capacity (MessagesTo w) = ring.edge_capacity w
edge_capacity (ScalarsTo w) = words.edge_capacity w.edge

-- what its edge states as sent is all that was put: nothing is gathered
abbrev pub IsOut : LaneWriter → Type 0
IsOut (MessagesTo w) = ⊤
IsOut (ScalarsTo w) = many_messages w.gathered.items ≡ []

-- all that was taken is told, as far as there is room to tell it and its count is known
abbrev pub IsAllTold : LaneReader → Type 0
IsAllTold (MessagesFrom r) = ⊤
IsAllTold (ScalarsFrom p) = HasTold p

-- the kind of the items that this writer may put, or none where each may be put
abbrev pub kind_of : LaneWriter → Option Kind
kind_of (MessagesTo w) = ring.kind_of w
kind_of (ScalarsTo w) = Some (words.kind_of w.edge)

-- the kind of the items that this reader takes, or none where they may be of any
abbrev pub reader_kind : LaneReader → Option Kind
reader_kind (MessagesFrom r) = ring.reader_kind r
reader_kind (ScalarsFrom p) = Some (words.reader_kind p.edge)

-- every message taken so far, the oldest first
abbrev pub received : LaneReader → List Msg
received (MessagesFrom r) = ring.received r
received (ScalarsFrom p) = taken_from p

-- what the next takes are certain to give, the oldest first
abbrev pub certain_held : LaneReader → List Msg
certain_held (MessagesFrom r) = ring.certain_held r
certain_held (ScalarsFrom p) = held_in p

-- what the reader's edge states as received: over a lane of scalars, all that the pocket took over, given since or not
abbrev pub taken_over : LaneReader → List Msg
taken_over (MessagesFrom r) = ring.received r
taken_over (ScalarsFrom p) = words.received p.edge

-- what the pocket holds of it
abbrev pub in_pocket : LaneReader → List Msg
in_pocket (MessagesFrom r) = []
in_pocket (ScalarsFrom p) = content_of p.inbox.store

-- the two are the ends of one lane, and the pocket has room for all that a lane of scalars may hold
abbrev pub IsLane : LaneWriter → LaneReader → Type 0
IsLane (MessagesTo w) (MessagesFrom r) = ring.IsEdge w r
IsLane (MessagesTo w) (ScalarsFrom p) = ⊥
IsLane (ScalarsTo w) (MessagesFrom r) = ⊥
IsLane (ScalarsTo w) (ScalarsFrom p) = words.IsEdge w.edge p.edge × ring.IsEdge p.back w.back × (words.edge_capacity w.edge ≤ p.inbox.store.capacity)

-- the writer of one lane, before and after
abbrev pub SameWriter : LaneWriter → LaneWriter → Type 0
SameWriter (MessagesTo a) (MessagesTo b) = ring.SameWriter a b
SameWriter (MessagesTo a) (ScalarsTo b) = ⊥
SameWriter (ScalarsTo a) (MessagesTo b) = ⊥
SameWriter (ScalarsTo a) (ScalarsTo b) = words.SameWriter a.edge b.edge × ring.SameReader a.back b.back

-- the reader of one lane, before and after
abbrev pub SameReader : LaneReader → LaneReader → Type 0
SameReader (MessagesFrom a) (MessagesFrom b) = ring.SameReader a b
SameReader (MessagesFrom a) (ScalarsFrom q) = ⊥
SameReader (ScalarsFrom p) (MessagesFrom b) = ⊥
SameReader (ScalarsFrom p) (ScalarsFrom q) = SamePocket p q

-- nothing was put on the lane, which has places for so many messages
abbrev pub IsNewWriter : LaneWriter → ℕ → Type 0
IsNewWriter w capacity = (sent w ≡ []) × (certain_room w ≡ capacity) × (edge_capacity w ≡ capacity)

-- `End` was put on the lane
abbrev pub IsClosed : LaneWriter → Type 0
IsClosed w = ended (signals (sent w)) ≡ true

-- no `End` was put on the lane
abbrev pub IsNotClosed : LaneWriter → Type 0
IsNotClosed w = ended (signals (sent w)) ≡ false

-- the writer put nothing, and no room that was certain is lost
abbrev pub WriterLooked : LaneWriter → LaneWriter → Type 0
WriterLooked a b = (sent b ≡ sent a) × (certain_room a ≤ certain_room b)

-- the reader took nothing, and what was certain is still certain
abbrev pub ReaderLooked : LaneReader → LaneReader → Type 0
ReaderLooked a b = (received b ≡ received a) × IsPrefix (certain_held a) (certain_held b)

-- what was certain at either end is still certain
abbrev pub StaysCertain : LaneWriter → LaneReader → LaneWriter → LaneReader → Type 0
StaysCertain w r w' r' = (certain_room w ≤ certain_room w') × IsPrefix (certain_held r) (certain_held r')

-- the writer put m after all others
abbrev pub PutsOne : LaneWriter → Msg → LaneWriter → Type 0
PutsOne a m b = (sent b ≡ sent a ++ m ∷ []) × (certain_room a ≤ certain_room b + 1)

-- these were put, unless an `End` was before, and took no more room than they are
pub record PutsAll (ms : List Msg) (a b : LaneWriter) : Type 0 where
  pub same : SameWriter a b
  pub put : sent b ≡ words.followed_unless_ended (sent a) ms
  pub room : certain_room a ≤ certain_room b + length ms

-- what was certain comes first of these and of what is certain after them
abbrev pub KeepsCertain : LaneReader → List Msg → LaneReader → Type 0
KeepsCertain a ms b = IsPrefix (certain_held a) (ms ++ certain_held b)

-- the reader took m: the first of what was certain, where anything was
abbrev pub TakesOne : LaneReader → Msg → LaneReader → Type 0
TakesOne a m b = (received b ≡ received a ++ m ∷ []) × IsPrefix (certain_held a) (m ∷ certain_held b)

-- the reader took nothing, and nothing was certain
abbrev pub TakesNone : LaneReader → LaneReader → Type 0
TakesNone a b = (received b ≡ received a) × (certain_held a ≡ []) × (certain_held b ≡ [])
