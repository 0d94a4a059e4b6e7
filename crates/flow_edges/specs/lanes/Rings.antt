-- The ring ends that a share owns, each at the number of its edge.
use Rattle.std.specs.Prelude.{◌≡◌, ℕ, ◌+◌, ◌≤◌, Bool, true, false, List, [], ◌++◌, length, slice_index_or, Option, Some, None, ⊤}
use mathlib.Core.List.{IsPrefix}
use Rattle.flow_messages.specs.Signals.{Signal, signals, ended}
use Rattle.flow_messages.specs.Ends.{View, SameEnds, SameTraffic}
use Rattle.flow_messages.specs.Tables.{at_line}
use Rattle.flow_edges.specs.declared.lanes.ends.LaneWriter.{LaneWriter}
use Rattle.flow_edges.specs.declared.lanes.ends.LaneReader.{LaneReader}
use Rattle.flow_rings.specs.declared.ring.Held.{Held}
use Rattle.flow_edges.specs.declared.lanes.rings.Rings.{Rings}
use Rattle.flow_messages.specs.declared.message.Kind.{Kind}
use Rattle.flow_edges.specs.lanes.Lane.{kind_of, sent, received, certain_room, certain_held, edge_capacity, IsOut, IsAllTold, SameWriter, SameReader, IsLane}

-- what was put, where the writer is there
abbrev pub sent_of : Option LaneWriter → List Signal
sent_of None = []
sent_of (Some w) = signals (sent w)

-- how many puts are certain of room
abbrev pub room_of : Option LaneWriter → ℕ
room_of None = 0
room_of (Some w) = certain_room w

-- whether the writer is there
abbrev pub writes_of : Option LaneWriter → Bool
writes_of None = false
writes_of (Some w) = true

-- the kind of the items that the writer may put, or none where each may be put
abbrev pub kind_seen : Option LaneWriter → Option Kind
kind_seen None = None
kind_seen (Some w) = kind_of w

-- how many messages the writer's edge holds at most
abbrev pub capacity_of : Option LaneWriter → ℕ
capacity_of None = 0
capacity_of (Some w) = edge_capacity w

-- nothing is gathered there
abbrev pub OutOf : Option LaneWriter → Type 0
OutOf None = ⊤
OutOf (Some w) = IsOut w

-- all that was taken there is told
abbrev pub ToldAt : Option LaneReader → Type 0
ToldAt None = ⊤
ToldAt (Some r) = IsAllTold r

-- what was taken, where the reader is there
abbrev pub received_of : Option LaneReader → List Signal
received_of None = []
received_of (Some r) = signals (received r)

-- what the next takes are certain to give
abbrev pub coming_of : Option LaneReader → List Signal
coming_of None = []
coming_of (Some r) = signals (certain_held r)

-- whether the reader is there
abbrev pub reads_of : Option LaneReader → Bool
reads_of None = false
reads_of (Some r) = true

-- what is seen of these writers and these readers
abbrev pub view_of_rings : List (Option LaneWriter) → List (Option LaneReader) → View
view_of_rings ws rs = record {
  sent = λ e. at_line sent_of ws e [];
  received = λ e. at_line received_of rs e [];
  coming = λ e. at_line coming_of rs e [];
  room = λ e. at_line room_of ws e 0;
  kind = λ e. at_line kind_seen ws e None;
  writes = λ e. at_line writes_of ws e false;
  reads = λ e. at_line reads_of rs e false;
}

-- what is seen of the ends
abbrev pub ends_of : Rings → View
ends_of t = view_of_rings t.writers.items t.readers.items

-- the writer of edge e, where it is there
abbrev pub writer_at : Rings → ℕ → Option LaneWriter
writer_at t e = slice_index_or t.writers.items e None

-- the reader of edge e, where it is there
abbrev pub reader_at : Rings → ℕ → Option LaneReader
reader_at t e = slice_index_or t.readers.items e None

-- nothing is kept back: nothing is gathered in any writer, and each reader told what it took
abbrev pub AllOut : Rings → Type 0
AllOut t = ((k : ℕ) → OutOf (writer_at t k)) × ((k : ℕ) → ToldAt (reader_at t k))

-- the same writer, or none in both
abbrev pub SameWriters : Option LaneWriter → Option LaneWriter → Type 0
SameWriters None None = ⊤
SameWriters None (Some v) = ⊥
SameWriters (Some w) None = ⊥
SameWriters (Some w) (Some v) = SameWriter w v

-- the same reader, or none in both
abbrev pub SameReaders : Option LaneReader → Option LaneReader → Type 0
SameReaders None None = ⊤
SameReaders None (Some v) = ⊥
SameReaders (Some r) None = ⊥
SameReaders (Some r) (Some v) = SameReader r v

-- the same ends, each at the same number
pub record SameRings (a b : Rings) : Type 0 where
  pub writer_count : length b.writers.items ≡ length a.writers.items
  pub reader_count : length b.readers.items ≡ length a.readers.items
  pub writers : (k : ℕ) → SameWriters (writer_at a k) (writer_at b k)
  pub readers : (k : ℕ) → SameReaders (reader_at a k) (reader_at b k)

-- both are there, and are the two ends of one edge
abbrev pub Joins : Option LaneWriter → Option LaneReader → Type 0
Joins None r = ⊥
Joins (Some w) None = ⊥
Joins (Some w) (Some r) = IsLane w r

-- the writer of edge e among a and its reader among b are the two ends of one edge
abbrev pub JoinsEdge : Rings → Rings → ℕ → Type 0
JoinsEdge a b e = Joins (writer_at a e) (reader_at b e)

-- the writer of edge e is among a, and its reader among b
abbrev pub AreSeen : Rings → Rings → ℕ → Type 0
AreSeen a b e = ((ends_of a).writes e ≡ true) × ((ends_of b).reads e ≡ true)

-- what was received over edge e among b begins what was sent over it among a
abbrev pub IsBegun : Rings → Rings → ℕ → Type 0
IsBegun a b e = IsPrefix ((ends_of b).received e) ((ends_of a).sent e)

-- where a stop was received all that was sent was, and nothing is to come
abbrev pub EndsWhole : Rings → Rings → ℕ → Type 0
EndsWhole a b e = ended ((ends_of b).received e) ≡ true → ((ends_of b).received e ≡ (ends_of a).sent e) × ((ends_of b).coming e ≡ [])

-- the numbers of the edges are those below so many
abbrev pub HasNumbersBelow : ℕ → Rings → Type 0
HasNumbersBelow edges t = (length t.writers.items ≡ edges) × (length t.readers.items ≡ edges)

-- no end is at this number
abbrev pub HasNoEndAt : Rings → ℕ → Type 0
HasNoEndAt t e = (writer_at t e ≡ None) × (reader_at t e ≡ None)

-- how many messages the edge of the writer at e holds at most
abbrev pub capacity_at : Rings → ℕ → ℕ
capacity_at t e = at_line capacity_of t.writers.items e 0

-- nothing was put or taken, and no certainty is lost
pub record Kept (a b : View) : Type 0 where
  pub ends : SameEnds a b
  pub traffic : SameTraffic a b
  pub coming : (k : ℕ) → IsPrefix (a.coming k) (b.coming k)
  pub room : (k : ℕ) → a.room k ≤ b.room k

-- the writer of edge e among w and its reader among r have met, and found this
pub record RingsHaveMet (w r : Rings) (e : ℕ) (found : Held) : Type 0 where
  pub in_order : (ends_of r).received e ++ (ends_of r).coming e ≡ (ends_of w).sent e
  pub count : found.count ≡ length ((ends_of r).coming e)
  pub room : found.room ≤ (ends_of w).room e
  pub whole : found.count + found.room ≡ capacity_at w e
  pub out : OutOf (writer_at w e)
