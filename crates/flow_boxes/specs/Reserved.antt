-- The room of the boxes of a share.
use Rattle.std.specs.Prelude.{◌≡◌, ℕ, List, Option, Some, None}
use Rattle.std.specs.List.{All}
use Rattle.flow_boxes.specs.declared.outbox.Outbox.{Outbox}
use Rattle.flow_boxes.specs.declared.inbox.Inbox.{Inbox}

-- for how many messages room is reserved, and n where there is no box
abbrev pub outbox_places : ℕ → Option Outbox → ℕ
outbox_places n None = n
outbox_places n (Some o) = o.store.capacity

abbrev pub inbox_places : ℕ → Option Inbox → ℕ
inbox_places n None = n
inbox_places n (Some i) = i.store.capacity

-- each box has room for the capacity
abbrev pub OutboxesReserved : ℕ → List (Option Outbox) → Type 0
OutboxesReserved capacity os = All (λ o. outbox_places capacity o ≡ capacity) os

abbrev pub InboxesReserved : ℕ → List (Option Inbox) → Type 0
InboxesReserved capacity is = All (λ i. inbox_places capacity i ≡ capacity) is
