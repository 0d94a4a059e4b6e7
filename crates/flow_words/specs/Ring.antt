-- The ring after an end of an edge of words.
use Rattle.std.specs.Prelude.{◌≡◌, ℕ, ◌+◌, ◌/◌, ◌<◌, ◌≤◌, true, false, List, [], ◌++◌, length}
use Rattle.std.specs.declared.alloc.Global.{Global}
use mathlib.Core.List.{IsPrefix}
use Rattle.rtrb.specs.Ring as ring
use Rattle.rtrb.specs.Shared.{Names}
use Rattle.rtrb.specs.declared.end.End.{End}
use Rattle.rtrb.specs.declared.producer.Producer.{Producer}
use Rattle.rtrb.specs.declared.consumer.Consumer.{Consumer}
use denote.RawPtr.{Ptr}
use Rattle.flow_messages.specs.declared.message.Kind.{Kind}
use Rattle.flow_messages.specs.declared.message.Kind.TheVariants.{Unit as UnitKind, Bool as BoolKind, Int as IntKind}
use Rattle.flow_messages.specs.declared.message.Msg.{Msg}
use Rattle.flow_messages.specs.Signals.{signals, has_end, orderly}
use Rattle.flow_messages.specs.Stores.{content_of}
use Rattle.flow_boxes.specs.declared.inbox.Inbox.{Inbox}
use Rattle.flow_boxes.specs.Coming.{HasCome}
use Rattle.flow_words.specs.Words.{unit_word, flag_word, each_said, ints_said, ints_sent, group_after}
use Rattle.flow_words.specs.declared.words.Group.{Group}
use Rattle.flow_words.specs.declared.words.Group.TheVariants.{None as NoGroup}
use Rattle.flow_words.specs.declared.ring.WriterWords.{WriterWords}
use Rattle.flow_words.specs.declared.ring.WriterWords.TheVariants.{Units as UnitsTo, Flags as FlagsTo, Ints as IntsTo}
use Rattle.flow_words.specs.declared.ring.ReaderWords.{ReaderWords}
use Rattle.flow_words.specs.declared.ring.ReaderWords.TheVariants.{Units as UnitsFrom, Flags as FlagsFrom, Ints as IntsFrom}

-- where a ring lies
abbrev pub Place : Type 0
Place = (Ptr × Ptr) × (Names × Global)

-- where the ring of this end lies
abbrev pub place : {T P : Type 0} → End T Global P → Place
place e = ((e.words, e.slots), (e.names, e.heap))

-- which ring it is: the kind of its items, and where it lies
abbrev pub Which : Type 0
Which = Kind × Place

abbrev pub writer_which : WriterWords → Which
writer_which (UnitsTo p) = (UnitKind, place p.end)
writer_which (FlagsTo p) = (BoolKind, place p.end)
writer_which (IntsTo p) = (IntKind, place p.end)

abbrev pub reader_which : ReaderWords → Which
reader_which (UnitsFrom c) = (UnitKind, place c.end)
reader_which (FlagsFrom c) = (BoolKind, place c.end)
reader_which (IntsFrom c) = (IntKind, place c.end)

-- the kind of the items
abbrev pub writer_kind : WriterWords → Kind
writer_kind w = (writer_which w).0

abbrev pub reader_kind : ReaderWords → Kind
reader_kind r = (reader_which r).0

-- every message put so far, the oldest first
abbrev pub sent : WriterWords → List Msg
sent (UnitsTo p) = each_said unit_word (ring.sent p)
sent (FlagsTo p) = each_said flag_word (ring.sent p)
sent (IntsTo p) = ints_sent (ring.sent p)

-- A message of an edge of integers takes as many places as the longest group: 4.
abbrev pub places_of_a_message : ℕ
places_of_a_message = 4

-- how many messages are certain of places
abbrev pub known_free : WriterWords → ℕ
known_free (UnitsTo p) = ring.known_free p
known_free (FlagsTo p) = ring.known_free p
known_free (IntsTo p) = ring.known_free p / places_of_a_message

-- how much of a group was put
abbrev pub half_put : WriterWords → Group
half_put (UnitsTo p) = NoGroup
half_put (FlagsTo p) = NoGroup
half_put (IntsTo p) = group_after NoGroup (ring.sent p)

-- how many messages it has places for
abbrev pub producer_capacity : WriterWords → ℕ
producer_capacity (UnitsTo p) = ring.producer_capacity p
producer_capacity (FlagsTo p) = ring.producer_capacity p
producer_capacity (IntsTo p) = ring.producer_capacity p / places_of_a_message

-- every message taken so far, the oldest first: what is half of a group is none yet
abbrev pub received : ReaderWords → List Msg
received (UnitsFrom c) = each_said unit_word (ring.received c)
received (FlagsFrom c) = each_said flag_word (ring.received c)
received (IntsFrom c) = ints_sent (ring.received c)

-- the messages that were seen to be there, the oldest first
abbrev pub known_items : ReaderWords → List Msg
known_items (UnitsFrom c) = each_said unit_word (ring.known_items c)
known_items (FlagsFrom c) = each_said flag_word (ring.known_items c)
known_items (IntsFrom c) = ints_said (group_after NoGroup (ring.received c)) (ring.known_items c)

-- how much of a group was taken
abbrev pub half_taken : ReaderWords → Group
half_taken (UnitsFrom c) = NoGroup
half_taken (FlagsFrom c) = NoGroup
half_taken (IntsFrom c) = group_after NoGroup (ring.received c)

-- the two ends of one ring
abbrev pub IsPair : WriterWords → ReaderWords → Type 0
IsPair w r = reader_which r ≡ writer_which w

-- the same end of the same ring
abbrev pub SameProducer : WriterWords → WriterWords → Type 0
SameProducer a b = (writer_which b ≡ writer_which a) × (producer_capacity b ≡ producer_capacity a)

abbrev pub SameConsumer : ReaderWords → ReaderWords → Type 0
SameConsumer a b = reader_which b ≡ reader_which a

-- these messages came over the ring into an inbox, in order: the first of what was certain
pub record TakesOver (ms : List Msg) (a b : ReaderWords) (i j : Inbox) : Type 0 where
  pub same : SameConsumer a b
  pub come : HasCome ms i j
  pub taken : received b ≡ received a ++ ms
  pub known : IsPrefix (known_items a) (ms ++ known_items b)
  pub orderly : orderly (signals (received a)) ≡ true → orderly (signals (received b)) ≡ true

-- some messages came so
abbrev pub TakesSome : ReaderWords → ReaderWords → Inbox → Inbox → Type 0
TakesSome a b i j = (ms : List Msg) × TakesOver ms a b i j

-- all messages that were seen came so
abbrev pub TakesKnown : ReaderWords → ReaderWords → Inbox → Inbox → Type 0
TakesKnown a b i j = TakesOver (known_items a) a b i j

-- nothing was put on the ring, which has places for so many messages
abbrev pub IsEmptyWriter : WriterWords → ℕ → Type 0
IsEmptyWriter w capacity = (sent w ≡ []) × (known_free w ≡ capacity) × (producer_capacity w ≡ capacity)

-- the same end of the same ring, where at most so many of the places that were certain are filled
abbrev pub FillsAtMost : ℕ → WriterWords → WriterWords → Type 0
FillsAtMost n a b = SameProducer a b × (known_free a ≤ known_free b + n)

-- nothing was put, and no place that was certain is lost
abbrev pub ProducerLooked : WriterWords → WriterWords → Type 0
ProducerLooked a b = SameProducer a b × (half_put b ≡ half_put a) × (sent b ≡ sent a) × (known_free a ≤ known_free b)

-- an inbox has room for so many messages more
abbrev pub HasRoomFor : Inbox → ℕ → Type 0
HasRoomFor i n = length (content_of i.store) + n ≤ i.store.capacity

-- an inbox is for items of the kind of this ring
abbrev pub HoldsKind : ReaderWords → Inbox → Type 0
HoldsKind r i = i.store.kind ≡ reader_kind r

-- where an inbox holds the end of the stream, this was taken from the ring
abbrev pub HoldsItsEnd : ReaderWords → Inbox → Type 0
HoldsItsEnd r i = has_end (content_of i.store) ≡ true → has_end (received r) ≡ true

-- where these messages come into an inbox, nothing that it holds follows the end of the stream
abbrev pub ComeInTurn : Inbox → List Msg → Type 0
ComeInTurn i ms = orderly (signals (content_of i.store ++ ms)) ≡ true

-- a rule lets no word follow the end of the stream
abbrev pub ClosesAtEnd : {W : Type 0} → (W → Msg) → (List W → W → Type 0) → Type 0
ClosesAtEnd word allows = (before : List _) (w : _) → allows before w → has_end (each_said word before) ≡ false

module _ {T P : Type 0} where
  -- every slot of the ring is known to be free
  abbrev pub KnowsAllFree : Producer T Global P → Type 0
  KnowsAllFree p = ring.producer_capacity p ≤ ring.known_free p

  -- the same end of the same ring, of which at most so many slots that were known to be free are so no more
  abbrev pub UsesAtMost : ℕ → Producer T Global P → Producer T Global P → Type 0
  UsesAtMost n a b = ring.SameProducer a b × (ring.known_free a ≤ ring.known_free b + n)

  -- nothing was pushed, and fewer slots than so many are known to be free
  abbrev pub TooFull : ℕ → Producer T Global P → Producer T Global P → Type 0
  TooFull n a b = (ring.sent b ≡ ring.sent a) × (ring.known_free a ≤ ring.known_free b) × (ring.known_free b < n)

  -- the words that were pushed say these messages more
  abbrev pub SaysMore : (T → Msg) → List Msg → Producer T Global P → Producer T Global P → Type 0
  SaysMore word ms a b = each_said word (ring.sent b) ≡ each_said word (ring.sent a) ++ ms

  -- where an inbox holds the end of the stream, the words that were popped say it
  abbrev pub HoldsSaidEnd : (T → Msg) → Consumer T Global P → Inbox → Type 0
  HoldsSaidEnd word c i = has_end (content_of i.store) ≡ true → has_end (each_said word (ring.received c)) ≡ true

  -- these words were popped: the first of what was seen
  abbrev pub Pops : List T → Consumer T Global P → Consumer T Global P → Type 0
  Pops ws a b = ring.SameConsumer a b × (ring.received b ≡ ring.received a ++ ws) × IsPrefix (ring.known_items a) (ws ++ ring.known_items b)
