-- The room of the boxes of a share, where one box changed.
use Rattle.std.proofs.Common.{◌≡◌, ℕ, ◌<◌, List, length, get_or, set, sym, ap, ◌∙◌}
use Rattle.std.proofs.lemmas.List.Elements.{All-set}
use Rattle.std.specs.Prelude.{Option, Some}
use Rattle.flow_boxes.specs.declared.outbox.Outbox.{Outbox}
use Rattle.flow_boxes.specs.declared.inbox.Inbox.{Inbox}
use Rattle.flow_boxes.specs.Reserved.{outbox_places, inbox_places, OutboxesReserved, InboxesReserved}

module _ (capacity : ℕ) (os : List (Option Outbox)) (e : ℕ) (reserved : OutboxesReserved capacity os) where
  pub outbox-with : (n : Outbox) → n.store.capacity ≡ capacity → OutboxesReserved capacity (set os e (Some n))
  outbox-with n room = All-set (λ (b : Option Outbox). outbox_places capacity b ≡ capacity) os e (Some n) room reserved

  pub outbox-kept : (old : Option Outbox) (o n : Outbox) → e < length os → old ≡ get_or os e old → old ≡ Some o → n.store.capacity ≡ o.store.capacity → OutboxesReserved capacity (set os e (Some n))
  outbox-kept old o n h at was same = outbox-with n (same ∙ ap (outbox_places capacity) (sym was ∙ at) ∙ reserved e old h)

module _ (capacity : ℕ) (is : List (Option Inbox)) (e : ℕ) (reserved : InboxesReserved capacity is) where
  pub inbox-with : (n : Inbox) → n.store.capacity ≡ capacity → InboxesReserved capacity (set is e (Some n))
  inbox-with n room = All-set (λ (b : Option Inbox). inbox_places capacity b ≡ capacity) is e (Some n) room reserved

  pub inbox-kept : (old : Option Inbox) (i n : Inbox) → e < length is → old ≡ get_or is e old → old ≡ Some i → n.store.capacity ≡ i.store.capacity → InboxesReserved capacity (set is e (Some n))
  inbox-kept old i n h at was same = inbox-with n (same ∙ ap (inbox_places capacity) (sym was ∙ at) ∙ reserved e old h)
