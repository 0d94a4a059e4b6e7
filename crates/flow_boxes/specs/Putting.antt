-- What a put changes in a writer's box.
use Rattle.std.specs.Prelude.{◌≡◌, ◌+◌, cond, List, [], ◌∷◌, ◌++◌, length}
use Rattle.flow_messages.specs.declared.message.Msg.{Msg}
use Rattle.flow_messages.specs.Signals.{signals, ended}
use Rattle.flow_messages.specs.Stores.{content_of}
use Rattle.flow_boxes.specs.declared.outbox.Outbox.{Outbox}

-- these messages were put, in order, and each took one place, unless `End` was put before
pub record PutsBlock (ms : List Msg) (a b : Outbox) : Type 0 where
  pub sent : b.sent.items ≡ cond (ended (signals a.sent.items)) a.sent.items (a.sent.items ++ ms)
  pub held : content_of b.store ≡ cond (ended (signals a.sent.items)) (content_of a.store) (content_of a.store ++ ms)
  pub room : b.room + cond (ended (signals a.sent.items)) 0 (length ms) ≡ a.room
  pub kind : b.store.kind ≡ a.store.kind
  pub reserved : b.store.capacity ≡ a.store.capacity

-- this message was put, and took one place
pub record PutsMessage (m : Msg) (a b : Outbox) : Type 0 where
  pub sent : b.sent.items ≡ a.sent.items ++ m ∷ []
  pub held : content_of b.store ≡ content_of a.store ++ m ∷ []
  pub room : b.room + 1 ≡ a.room

-- nothing was put, and as many places are left
pub record PutsNothing (a b : Outbox) : Type 0 where
  pub sent : b.sent.items ≡ a.sent.items
  pub held : content_of b.store ≡ content_of a.store
  pub room : b.room ≡ a.room
