-- What moves from a writer's box to a reader's.
use Rattle.std.specs.Prelude.{◌≡◌, ℕ, ◌+◌, ◌≤◌, ◌++◌, length}
use Rattle.flow_messages.specs.Stores.{content_of}
use Rattle.flow_boxes.specs.declared.outbox.Outbox.{Outbox}
use Rattle.flow_boxes.specs.declared.inbox.Inbox.{Inbox}

-- both boxes together hold at most so many messages
abbrev pub HoldAtMost : ℕ → Outbox → Inbox → Type 0
HoldAtMost capacity o i = length (content_of i.store) + length (content_of o.store) ≤ capacity

-- the reader's box holds, after what it held, all that the writer's box held
abbrev pub GetsAll : Outbox → Inbox → Inbox → Type 0
GetsAll o a b = content_of b.store ≡ content_of a.store ++ content_of o.store
