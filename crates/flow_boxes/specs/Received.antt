-- What was taken from a reader's box: what has arrived and is not held.
use Rattle.std.specs.Prelude.{◌≡◌, ℕ, List, ◌++◌, take, drop}
use Rattle.flow_messages.specs.declared.message.Msg.{Msg}
use Rattle.flow_messages.specs.Stores.{content_of}
use Rattle.flow_messages.specs.Lines.{gone}
use Rattle.flow_boxes.specs.declared.inbox.Inbox.{Inbox}

-- the messages that were taken, the oldest first
abbrev pub received_of : Inbox → List Msg
received_of i = gone i.arrived.items (content_of i.store)

-- these messages were taken, after all that were taken before
abbrev pub Receives : List Msg → Inbox → Inbox → Type 0
Receives ms a b = received_of b ≡ received_of a ++ ms

-- so many of the oldest messages were taken, and nothing came
pub record HasTaken (count : ℕ) (a b : Inbox) : Type 0 where
  pub kind : b.store.kind ≡ a.store.kind
  pub reserved : b.store.capacity ≡ a.store.capacity
  pub arrived : b.arrived.items ≡ a.arrived.items
  pub received : Receives (take count (content_of a.store)) a b
  pub rest : content_of b.store ≡ drop count (content_of a.store)
