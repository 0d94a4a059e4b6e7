-- What a contract sees of the two ends of an edge.
use Rattle.std.specs.Prelude.{◌≡◌, ◌+◌, ◌<◌, ◌≤◌, ℕ, true, false, List, [], ◌∷◌, ◌++◌, length, Option}
use mathlib.Core.List.{IsPrefix}
use Rattle.flow_messages.specs.declared.flat.Flat.{Flat}
use Rattle.arrayvec.specs.ArrayVec.{ArrayVec}
use Rattle.flow_messages.specs.Signals.{signal_of, signals, ended}
use Rattle.flow_messages.specs.Flats.{message_of, messages_of, flats_appended}
use Rattle.flow_messages.specs.Kinds.{FitsEdge}
use Rattle.flow_messages.specs.declared.message.Kind.{Kind}
use Rattle.flow_messages.specs.declared.message.Msg.{Msg}
use Rattle.flow_rings.specs.declared.ring.EdgeWriter.{EdgeWriter}
use Rattle.flow_rings.specs.declared.ring.EdgeReader.{EdgeReader}
use Rattle.flow_rings.specs.declared.ring.FinishedMark.{FinishedMark}
use Rattle.flow_rings.specs.Ring as ring

-- every message put so far, the oldest first
abbrev pub sent : EdgeWriter → List Msg
sent w = ring.sent w.ring

-- how many puts are certain of room
abbrev pub certain_room : EdgeWriter → ℕ
certain_room w = ring.known_free w.ring

-- every message taken so far, the oldest first
abbrev pub received : EdgeReader → List Msg
received r = ring.received r.ring

-- what the next takes are certain to give, the oldest first
abbrev pub certain_held : EdgeReader → List Msg
certain_held r = ring.known_items r.ring

-- how many messages the edge of this writer holds at most
abbrev pub edge_capacity : EdgeWriter → ℕ
edge_capacity w = ring.producer_capacity w.ring

-- the kind of the items that this writer may put, or none where each may be put
abbrev pub kind_of : EdgeWriter → Option Kind
kind_of w = ring.writer_kind w.ring

-- the kind of the items that this reader takes, or none where they may be of any
abbrev pub reader_kind : EdgeReader → Option Kind
reader_kind r = ring.reader_kind r.ring

-- the two are the ends of one edge
abbrev pub IsEdge : EdgeWriter → EdgeReader → Type 0
IsEdge w r = ring.IsPair w.ring r.ring

-- the writer of one edge, before and after
abbrev pub SameWriter : EdgeWriter → EdgeWriter → Type 0
SameWriter a b = ring.SameProducer a.ring b.ring

-- the reader of one edge, before and after
abbrev pub SameReader : EdgeReader → EdgeReader → Type 0
SameReader a b = ring.SameConsumer a.ring b.ring

-- every message that was ever put by the writer that left this mark
abbrev pub all_sent : FinishedMark → List Msg
all_sent f = ring.all_sent f.mark

-- the writer has left this mark, with all that it had put
abbrev pub Finishes : EdgeWriter → FinishedMark → Type 0
Finishes w f = ring.Finishes w.ring f.mark

-- the mark was left by the writer of this reader's edge
abbrev pub IsMarkOf : FinishedMark → EdgeReader → Type 0
IsMarkOf f r = ring.IsFinishedOf f.mark r.ring

-- nothing was put on the edge, which has places for so many messages
abbrev pub IsNewWriter : EdgeWriter → ℕ → Type 0
IsNewWriter w capacity = (sent w ≡ []) × (certain_room w ≡ capacity) × (edge_capacity w ≡ capacity)

-- the writer put nothing, and no room that was certain is lost
abbrev pub WriterLooked : EdgeWriter → EdgeWriter → Type 0
WriterLooked a b = (sent b ≡ sent a) × (certain_room a ≤ certain_room b)

-- the reader took nothing, and what was certain is still certain
abbrev pub ReaderLooked : EdgeReader → EdgeReader → Type 0
ReaderLooked a b = (received b ≡ received a) × IsPrefix (certain_held a) (certain_held b)

-- what was certain at either end is still certain
abbrev pub StaysCertain : EdgeWriter → EdgeReader → EdgeWriter → EdgeReader → Type 0
StaysCertain w r w' r' = (certain_room w ≤ certain_room w') × IsPrefix (certain_held r) (certain_held r')

-- the writer put m after all others
abbrev pub PutsOne : EdgeWriter → Msg → EdgeWriter → Type 0
PutsOne a m b = (sent b ≡ sent a ++ m ∷ []) × (certain_room a ≤ certain_room b + 1)

-- no `End` was put on the edge
abbrev pub IsNotClosed : EdgeWriter → Type 0
IsNotClosed w = ended (signals (sent w)) ≡ false

-- room is certain for all of these
abbrev pub IsRoomForAll : EdgeWriter → List Flat → Type 0
IsRoomForAll w flats = length flats ≤ certain_room w

-- room is not certain for all of these
abbrev pub LacksRoom : EdgeWriter → List Flat → Type 0
LacksRoom w flats = certain_room w < length flats

-- no room that was certain is lost but that of these
abbrev pub LeavesRoom : EdgeWriter → List Flat → EdgeWriter → Type 0
LeavesRoom a flats b = certain_room a ≤ certain_room b + length flats

-- the reader is at the end: `End` was taken
abbrev pub AtEnd : EdgeReader → Type 0
AtEnd r = ended (signals (received r)) ≡ true

-- a take is certain of a message
abbrev pub IsReady : EdgeReader → Type 0
IsReady r = 0 < length (certain_held r)

-- both ends are still those of one edge
abbrev pub SameBoth : EdgeWriter → EdgeReader → EdgeWriter → EdgeReader → Type 0
SameBoth w r w' r' = SameWriter w w' × SameReader r r'

-- what was certain comes first of these and of what is certain after them
abbrev pub KeepsCertain : EdgeReader → List Msg → EdgeReader → Type 0
KeepsCertain a ms b = IsPrefix (certain_held a) (ms ++ certain_held b)

-- the reader took m: the first of what was certain, where anything was
abbrev pub TakesOne : EdgeReader → Msg → EdgeReader → Type 0
TakesOne a m b = (received b ≡ received a ++ m ∷ []) × IsPrefix (certain_held a) (m ∷ certain_held b)

-- the reader took nothing, and nothing was certain
abbrev pub TakesNone : EdgeReader → EdgeReader → Type 0
TakesNone a b = (received b ≡ received a) × (certain_held a ≡ []) × (certain_held b ≡ [])

-- what was taken and what is certain are these messages
abbrev pub HasAll : EdgeReader → List Msg → Type 0
HasAll r ms = received r ++ certain_held r ≡ ms

-- these messages were taken, and nothing is left
abbrev pub TookAll : EdgeReader → List Msg → Type 0
TookAll r ms = (received r ≡ ms) × (certain_held r ≡ [])

-- an edge of this kind takes what the flat stands for
abbrev pub FlatFits : Option Kind → Flat → Type 0
FlatFits of x = FitsEdge of (signal_of (message_of x))

-- the messages that were appended to a block
abbrev pub messages_appended : ArrayVec Flat → ArrayVec Flat → List Msg
messages_appended before after = messages_of (flats_appended before after)
