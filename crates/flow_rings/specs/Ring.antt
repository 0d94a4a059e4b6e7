-- The ring after an end of an edge: of messages, or of scalars of one kind.
use Rattle.std.specs.Prelude.{◌≡◌, ◌+◌, ◌<◌, ◌≤◌, ℕ, List, [], ◌∷◌, ◌++◌, length, Option, Some, None}
use mathlib.Core.List.{IsPrefix}
use Rattle.std.specs.declared.alloc.Global.{Global}
use Rattle.rtrb.specs.Ring as ring
use Rattle.rtrb.specs.Shared.{Names}
use Rattle.rtrb.specs.declared.end.End.{End}
use denote.RawPtr.{Ptr}
use Rattle.flow_messages.specs.declared.message.Kind.{Kind}
use Rattle.flow_messages.specs.declared.message.Kind.TheVariants.{Unit as UnitKind, Bool as BoolKind, Int as IntKind}
use Rattle.flow_messages.specs.declared.message.Msg.{Msg}
use Rattle.flow_messages.specs.declared.flat.Flat.{Flat}
use Rattle.flow_messages.specs.Flats.{messages_of}
use Rattle.flow_rings.specs.declared.ring.WriterRing.{WriterRing}
use Rattle.flow_rings.specs.declared.ring.WriterRing.TheVariants.{Messages as MessagesTo, Units as UnitsTo, Flags as FlagsTo, Ints as IntsTo}
use Rattle.flow_rings.specs.declared.ring.ReaderRing.{ReaderRing}
use Rattle.flow_rings.specs.declared.ring.ReaderRing.TheVariants.{Messages as MessagesFrom, Units as UnitsFrom, Flags as FlagsFrom, Ints as IntsFrom}
use Rattle.flow_rings.specs.declared.ring.MarkRing.{MarkRing}
use Rattle.flow_rings.specs.declared.ring.MarkRing.TheVariants.{Messages as MessagesLeft, Units as UnitsLeft, Flags as FlagsLeft, Ints as IntsLeft}

-- where a ring lies
abbrev pub Place : Type 0
Place = (Ptr × Ptr) × (Names × Global)

-- where the ring of this end lies
abbrev pub place : {T P : Type 0} → End T Global P → Place
place e = ((e.words, e.slots), (e.names, e.heap))

-- which ring it is: the kind of its items, where they are of one kind, and where it lies
abbrev pub Which : Type 0
Which = Option Kind × Place

abbrev pub writer_which : WriterRing → Which
writer_which (MessagesTo p) = (None, place p.end)
writer_which (UnitsTo p) = (Some UnitKind, place p.end)
writer_which (FlagsTo p) = (Some BoolKind, place p.end)
writer_which (IntsTo p) = (Some IntKind, place p.end)

abbrev pub reader_which : ReaderRing → Which
reader_which (MessagesFrom c) = (None, place c.end)
reader_which (UnitsFrom c) = (Some UnitKind, place c.end)
reader_which (FlagsFrom c) = (Some BoolKind, place c.end)
reader_which (IntsFrom c) = (Some IntKind, place c.end)

abbrev pub mark_which : MarkRing → Which
mark_which (MessagesLeft f) = (None, place f.end)
mark_which (UnitsLeft f) = (Some UnitKind, place f.end)
mark_which (FlagsLeft f) = (Some BoolKind, place f.end)
mark_which (IntsLeft f) = (Some IntKind, place f.end)

-- the kind of the items, where they are of one kind
abbrev pub writer_kind : WriterRing → Option Kind
writer_kind w = (writer_which w).0

abbrev pub reader_kind : ReaderRing → Option Kind
reader_kind r = (reader_which r).0

-- every message put so far, the oldest first
abbrev pub sent : WriterRing → List Msg
sent (MessagesTo p) = ring.sent p
sent (UnitsTo p) = messages_of (ring.sent p)
sent (FlagsTo p) = messages_of (ring.sent p)
sent (IntsTo p) = messages_of (ring.sent p)

-- how many places are known to be free
abbrev pub known_free : WriterRing → ℕ
known_free (MessagesTo p) = ring.known_free p
known_free (UnitsTo p) = ring.known_free p
known_free (FlagsTo p) = ring.known_free p
known_free (IntsTo p) = ring.known_free p

-- how many messages it has places for
abbrev pub producer_capacity : WriterRing → ℕ
producer_capacity (MessagesTo p) = ring.producer_capacity p
producer_capacity (UnitsTo p) = ring.producer_capacity p
producer_capacity (FlagsTo p) = ring.producer_capacity p
producer_capacity (IntsTo p) = ring.producer_capacity p

-- every message taken so far, the oldest first
abbrev pub received : ReaderRing → List Msg
received (MessagesFrom c) = ring.received c
received (UnitsFrom c) = messages_of (ring.received c)
received (FlagsFrom c) = messages_of (ring.received c)
received (IntsFrom c) = messages_of (ring.received c)

-- the messages that were seen to be there, the oldest first
abbrev pub known_items : ReaderRing → List Msg
known_items (MessagesFrom c) = ring.known_items c
known_items (UnitsFrom c) = messages_of (ring.known_items c)
known_items (FlagsFrom c) = messages_of (ring.known_items c)
known_items (IntsFrom c) = messages_of (ring.known_items c)

-- how many messages it has places for
abbrev pub consumer_capacity : ReaderRing → ℕ
consumer_capacity (MessagesFrom c) = ring.consumer_capacity c
consumer_capacity (UnitsFrom c) = ring.consumer_capacity c
consumer_capacity (FlagsFrom c) = ring.consumer_capacity c
consumer_capacity (IntsFrom c) = ring.consumer_capacity c

-- every message that was ever put
abbrev pub all_sent : MarkRing → List Msg
all_sent (MessagesLeft f) = ring.all_sent f
all_sent (UnitsLeft f) = messages_of (ring.all_sent f)
all_sent (FlagsLeft f) = messages_of (ring.all_sent f)
all_sent (IntsLeft f) = messages_of (ring.all_sent f)

-- the two ends of one ring
abbrev pub IsPair : WriterRing → ReaderRing → Type 0
IsPair w r = reader_which r ≡ writer_which w

-- the same end of the same ring
abbrev pub SameProducer : WriterRing → WriterRing → Type 0
SameProducer a b = (writer_which b ≡ writer_which a) × (producer_capacity b ≡ producer_capacity a)

abbrev pub SameConsumer : ReaderRing → ReaderRing → Type 0
SameConsumer a b = (reader_which b ≡ reader_which a) × (consumer_capacity b ≡ consumer_capacity a)

-- what is left of this end, with all that it had put
abbrev pub Finishes : WriterRing → MarkRing → Type 0
Finishes w f = (mark_which f ≡ writer_which w) × (all_sent f ≡ sent w)

-- it is left of the writer of this reader's ring
abbrev pub IsFinishedOf : MarkRing → ReaderRing → Type 0
IsFinishedOf f r = reader_which r ≡ mark_which f

-- nothing was put, and all its places are free
abbrev pub IsEmptyWriter : WriterRing → ℕ → Type 0
IsEmptyWriter w capacity = (sent w ≡ []) × (known_free w ≡ capacity) × (producer_capacity w ≡ capacity)

-- nothing was put, and no place that was known to be free is lost
abbrev pub SeesRoom : WriterRing → WriterRing → Type 0
SeesRoom a b = (sent b ≡ sent a) × (known_free a ≤ known_free b)

-- nothing was taken, and what was known is still known
abbrev pub SeesItems : ReaderRing → ReaderRing → Type 0
SeesItems a b = (received b ≡ received a) × IsPrefix (known_items a) (known_items b)

-- these were put after all others, in order
abbrev pub Pushes : WriterRing → List Flat → WriterRing → Type 0
Pushes a flats b = (sent b ≡ sent a ++ messages_of flats) × (known_free a ≤ known_free b + length flats)

-- m was put after all others
abbrev pub PushesOne : WriterRing → Msg → WriterRing → Type 0
PushesOne a m b = (sent b ≡ sent a ++ m ∷ []) × (known_free a ≤ known_free b + 1)

-- nothing was put, and no place is free
abbrev pub SeesNoRoom : WriterRing → WriterRing → Type 0
SeesNoRoom a b = (sent b ≡ sent a) × (known_free b ≡ 0)

-- nothing was put, and fewer places are free than these need
abbrev pub SeesTooLittle : WriterRing → List Flat → WriterRing → Type 0
SeesTooLittle a flats b = (sent b ≡ sent a) × (known_free a ≤ known_free b) × (known_free b < length flats)

-- m was taken: the first of what was known, where anything was
abbrev pub PopsOne : ReaderRing → Msg → ReaderRing → Type 0
PopsOne a m b = (received b ≡ received a ++ m ∷ []) × IsPrefix (known_items a) (m ∷ known_items b)

-- nothing was taken, and nothing is known to be there
abbrev pub PopsNone : ReaderRing → ReaderRing → Type 0
PopsNone a b = (received b ≡ received a) × (known_items b ≡ [])

-- what was known comes first of these and of what is known after them
abbrev pub KeepsItems : ReaderRing → List Msg → ReaderRing → Type 0
KeepsItems a ms b = IsPrefix (known_items a) (ms ++ known_items b)

-- a message is known to be there
abbrev pub HoldsAny : ReaderRing → Type 0
HoldsAny r = 0 < length (known_items r)

-- all that was put and not taken leaves this many places of the ring
abbrev pub IsAllFree : ℕ → WriterRing → ReaderRing → Type 0
IsAllFree n w r = n + length (sent w) ≡ producer_capacity w + length (received r)
