-- What was taken from the reader of a lane of scalars, and what is held for it.
use Rattle.std.specs.Prelude.{◌≡◌, ℕ, ◌<◌, List, ◌++◌, length, take, drop}
use mathlib.Core.List.{IsPrefix}
use Rattle.flow_messages.specs.declared.message.Msg.{Msg}
use Rattle.flow_messages.specs.Stores.{content_of}
use Rattle.flow_boxes.specs.Received.{received_of}
use Rattle.flow_rings.specs.Edge as ring
use Rattle.flow_words.specs.Edge as words
use Rattle.flow_edges.specs.declared.lanes.pocket.Pocket.{Pocket}
use Rattle.flow_edges.specs.lanes.Credits.{LeavesNone}

-- every message taken so far, the oldest first
abbrev pub taken_from : Pocket → List Msg
taken_from p = received_of p.inbox

-- what the next takes are certain to give: what the pocket holds, and then what the edge does
abbrev pub held_in : Pocket → List Msg
held_in p = content_of p.inbox.store ++ words.certain_held p.edge

-- none of what was taken is owed, unless the way back has no room or the count stands still
abbrev pub HasTold : Pocket → Type 0
HasTold p = LeavesNone p.back p.owed p.owed

-- the same end of the same lane, with as many places
abbrev pub SamePocket : Pocket → Pocket → Type 0
SamePocket p q = words.SameReader p.edge q.edge × ring.SameWriter p.back q.back × (q.inbox.store.capacity ≡ p.inbox.store.capacity)

-- none was taken, and more may be held since: where a take is certain to give any, the pocket holds one
pub record HoldsWhatCame (p q : Pocket) : Type 0 where
  pub edge : words.SameReader p.edge q.edge
  pub back : ring.SameWriter p.back q.back
  pub places : q.inbox.store.capacity ≡ p.inbox.store.capacity
  pub taken : taken_from q ≡ taken_from p
  pub more : IsPrefix (held_in p) (held_in q)
  pub some : 0 < length (held_in q) → 0 < length (content_of q.inbox.store)

-- so many were taken: the first of what was certain
pub record TookFirst (count : ℕ) (p q : Pocket) : Type 0 where
  pub edge : words.SameReader p.edge q.edge
  pub back : ring.SameWriter p.back q.back
  pub places : q.inbox.store.capacity ≡ p.inbox.store.capacity
  pub taken : taken_from q ≡ taken_from p ++ take count (held_in p)
  pub ahead : IsPrefix (held_in p) (take count (held_in p) ++ held_in q)

-- so many of what the pocket held were taken, and the edge is as it was
pub record SkipsHeld (count : ℕ) (p q : Pocket) : Type 0 where
  pub edge : q.edge ≡ p.edge
  pub back : ring.SameWriter p.back q.back
  pub places : q.inbox.store.capacity ≡ p.inbox.store.capacity
  pub taken : taken_from q ≡ taken_from p ++ take count (content_of p.inbox.store)
  pub rest : content_of q.inbox.store ≡ drop count (content_of p.inbox.store)

-- nothing changed but what the writer was told
pub record OnlyTells (p q : Pocket) : Type 0 where
  pub edge : q.edge ≡ p.edge
  pub inbox : q.inbox ≡ p.inbox
  pub back : ring.SameWriter p.back q.back
