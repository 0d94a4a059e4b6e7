-- What a contract sees of the two ends of an edge of words.
use Rattle.std.specs.Prelude.{◌≡◌, ℕ, ◌+◌, ◌≤◌, false, List, [], ◌∷◌, ◌++◌, Some, cond}
use mathlib.Core.List.{IsPrefix}
use Rattle.flow_messages.specs.declared.message.Kind.{Kind}
use Rattle.flow_messages.specs.declared.message.Msg.{Msg}
use Rattle.flow_boxes.specs.declared.inbox.Inbox.{Inbox}
use Rattle.flow_messages.specs.Kinds.{FitsEdge}
use Rattle.flow_messages.specs.Signals.{signals, signal_of, ended}
use Rattle.flow_words.specs.declared.ring.WordWriter.{WordWriter}
use Rattle.flow_words.specs.declared.ring.WordReader.{WordReader}
use Rattle.flow_words.specs.Ring as ring

-- every message put so far, the oldest first
abbrev pub sent : WordWriter → List Msg
sent w = ring.sent w.ring

-- how many puts are certain of room
abbrev pub certain_room : WordWriter → ℕ
certain_room w = ring.known_free w.ring

-- every message taken so far, the oldest first
abbrev pub received : WordReader → List Msg
received r = ring.received r.ring

-- what the next takes are certain to give, the oldest first
abbrev pub certain_held : WordReader → List Msg
certain_held r = ring.known_items r.ring

-- how many messages the edge of this writer holds at most
abbrev pub edge_capacity : WordWriter → ℕ
edge_capacity w = ring.producer_capacity w.ring

-- the kind of the items that this writer may put
abbrev pub kind_of : WordWriter → Kind
kind_of w = ring.writer_kind w.ring

-- the kind of the items that this reader takes
abbrev pub reader_kind : WordReader → Kind
reader_kind r = ring.reader_kind r.ring

-- the two are the ends of one edge
abbrev pub IsEdge : WordWriter → WordReader → Type 0
IsEdge w r = ring.IsPair w.ring r.ring

-- the writer of one edge, before and after
abbrev pub SameWriter : WordWriter → WordWriter → Type 0
SameWriter a b = ring.SameProducer a.ring b.ring

-- the reader of one edge, before and after
abbrev pub SameReader : WordReader → WordReader → Type 0
SameReader a b = ring.SameConsumer a.ring b.ring

-- both ends are still those of one edge
abbrev pub SameBoth : WordWriter → WordReader → WordWriter → WordReader → Type 0
SameBoth w r w' r' = SameWriter w w' × SameReader r r'

-- nothing was put on the edge, which has places for so many messages
abbrev pub IsNewWriter : WordWriter → ℕ → Type 0
IsNewWriter w capacity = (sent w ≡ []) × (certain_room w ≡ capacity) × (edge_capacity w ≡ capacity)

-- the writer put nothing, and no room that was certain is lost
abbrev pub WriterLooked : WordWriter → WordWriter → Type 0
WriterLooked a b = (sent b ≡ sent a) × (certain_room a ≤ certain_room b)

-- what was certain at either end is still certain
abbrev pub StaysCertain : WordWriter → WordReader → WordWriter → WordReader → Type 0
StaysCertain w r w' r' = (certain_room w ≤ certain_room w') × IsPrefix (certain_held r) (certain_held r')

-- the writer put m after all others
abbrev pub PutsOne : WordWriter → Msg → WordWriter → Type 0
PutsOne a m b = (sent b ≡ sent a ++ m ∷ []) × (certain_room a ≤ certain_room b + 1)

-- no `End` was put on the edge
abbrev pub IsNotClosed : WordWriter → Type 0
IsNotClosed w = ended (signals (sent w)) ≡ false

-- the edge of this reader takes the message
abbrev pub FitsReader : WordReader → Msg → Type 0
FitsReader r m = FitsEdge (Some (reader_kind r)) (signal_of m)

-- an inbox is for items of the kind of this edge
abbrev pub HoldsKind : WordReader → Inbox → Type 0
HoldsKind r i = ring.HoldsKind r.ring i

-- where an inbox holds the end of the stream, this was taken from the edge
abbrev pub HoldsItsEnd : WordReader → Inbox → Type 0
HoldsItsEnd r i = ring.HoldsItsEnd r.ring i

-- these messages after those that were put before, unless an end was put
abbrev pub followed_unless_ended : List Msg → List Msg → List Msg
followed_unless_ended before ms = cond (ended (signals before)) before (before ++ ms)

-- these messages came over the edge into an inbox, in order: the first of what was certain
abbrev pub TakesOver : List Msg → WordReader → WordReader → Inbox → Inbox → Type 0
TakesOver ms a b i j = ring.TakesOver ms a.ring b.ring i j
