-- The kinds of the boxes of a share.
use Rattle.std.specs.Prelude.{◌≡◌, ℕ, List, slice_get, Option, Some, None}
use Rattle.flow_messages.specs.declared.message.Kind.{Kind}
use Rattle.flow_messages.specs.Tables.{at_line}
use Rattle.flow_boxes.specs.declared.outbox.Outbox.{Outbox}
use Rattle.flow_boxes.specs.declared.inbox.Inbox.{Inbox}

-- the kind of the items that the box holds
abbrev pub outbox_kind : Outbox → Kind
outbox_kind o = o.store.kind

abbrev pub inbox_kind : Inbox → Kind
inbox_kind i = i.store.kind

-- the kind of the box, and k where there is no box
abbrev pub kind_or : {B : Type 0} → (B → Kind) → Kind → Option B → Kind
kind_or of k None = k
kind_or of k (Some b) = of b

-- each box is of the kind that stands at its number
abbrev pub AreOfKinds : {B : Type 0} → (B → Kind) → List Kind → List (Option B) → Type 0
AreOfKinds of kinds boxes = (e : ℕ) (k : Kind) → slice_get kinds e ≡ Some k → at_line (kind_or of k) boxes e k ≡ k
