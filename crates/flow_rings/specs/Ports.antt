-- What is done at an end of a ring of scalars.
use Rattle.std.specs.Prelude.{◌≡◌, ◌+◌, ◌<◌, ◌≤◌, List, [], ◌∷◌, ◌++◌, length}
use mathlib.Core.List.{IsPrefix}
use Rattle.std.specs.declared.alloc.Global.{Global}
use Rattle.rtrb.specs.Ring as port
use Rattle.rtrb.specs.declared.producer.Producer.{Producer}
use Rattle.rtrb.specs.declared.consumer.Consumer.{Consumer}
use Rattle.flow_messages.specs.declared.message.Msg.{Msg}
use Rattle.flow_messages.specs.declared.flat.Flat.{Flat}
use Rattle.flow_messages.specs.Flats.{message_of, messages_of}

module _ {P : Type 0} where
  -- what stands for m was put after all others
  abbrev pub PutsFlat : Producer Flat Global P → Msg → Producer Flat Global P → Type 0
  PutsFlat a m b =
      (messages_of (port.sent b) ≡ messages_of (port.sent a) ++ m ∷ [])
      × (port.known_free a ≤ port.known_free b + 1)

  -- these were put after all others
  abbrev pub PutsFlats : Producer Flat Global P → List Flat → Producer Flat Global P → Type 0
  PutsFlats a flats b = (port.sent b ≡ port.sent a ++ flats) × (port.known_free a ≤ port.known_free b + length flats)

  -- nothing was put, and no place is free
  abbrev pub FindsNoPlace : Producer Flat Global P → Producer Flat Global P → Type 0
  FindsNoPlace a b = (port.sent b ≡ port.sent a) × (port.known_free b ≡ 0)

  -- nothing was put, and fewer places are free than these need
  abbrev pub FindsTooFew : Producer Flat Global P → List Flat → Producer Flat Global P → Type 0
  FindsTooFew a flats b =
      (port.sent b ≡ port.sent a)
      × (port.known_free a ≤ port.known_free b)
      × (port.known_free b < length flats)

  -- x, which the protocol allows, was taken for m: the first of what was known, where anything was
  abbrev pub TakesFlat : (List Flat → Flat → Type 0) → Consumer Flat Global P → Flat → Msg → Consumer Flat Global P → Type 0
  TakesFlat allows a x m b =
      (message_of x ≡ m)
      × (port.received b ≡ port.received a ++ x ∷ [])
      × IsPrefix (port.known_items a) (x ∷ port.known_items b)
      × allows (port.received a) x

  -- nothing was taken, and nothing is known to be there
  abbrev pub FindsNone : Consumer Flat Global P → Consumer Flat Global P → Type 0
  FindsNone a b = (port.received b ≡ port.received a) × (port.known_items b ≡ [])

  -- these were taken, in order
  abbrev pub TakesFlats : Consumer Flat Global P → List Flat → Consumer Flat Global P → Type 0
  TakesFlats a flats b = port.received b ≡ port.received a ++ flats

  -- what was known comes first of these and of what is known after them
  abbrev pub KeepsKnown : Consumer Flat Global P → List Flat → Consumer Flat Global P → Type 0
  KeepsKnown a flats b = IsPrefix (port.known_items a) (flats ++ port.known_items b)

  -- a scalar is known to be there
  abbrev pub KnowsAny : Consumer Flat Global P → Type 0
  KnowsAny c = 0 < length (port.known_items c)
