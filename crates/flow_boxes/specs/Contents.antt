-- What a contract sees of the boxes of a share.
use Rattle.std.specs.Prelude.{ℕ, Bool, true, false, List, [], length, slice_get, Option, Some, None}
use Rattle.flow_messages.specs.declared.message.Kind.{Kind}
use Rattle.flow_messages.specs.Signals.{Signal, signals}
use Rattle.flow_messages.specs.Ends.{View}
use Rattle.flow_messages.specs.Tables.{at_line}
use Rattle.flow_messages.specs.Stores.{content_of}
use Rattle.flow_boxes.specs.declared.outbox.Outbox.{Outbox}
use Rattle.flow_boxes.specs.declared.inbox.Inbox.{Inbox}
use Rattle.flow_boxes.specs.declared.boxes.Boxes.{Boxes}
use Rattle.flow_boxes.specs.Received.{received_of}

pub record Contents : Type 0 where
  pub ends : View
  pub leaving : ℕ → List Signal  -- what was put since the last carrying, the oldest first
  pub count : ℕ  -- the edges have the numbers below it
  pub capacity : ℕ  -- how many messages an edge holds at most

abbrev pub sent_in : Option Outbox → List Signal
sent_in None = []
sent_in (Some o) = signals o.sent.items

abbrev pub leaving_in : Option Outbox → List Signal
leaving_in None = []
leaving_in (Some o) = signals (content_of o.store)

abbrev pub room_in : Option Outbox → ℕ
room_in None = 0
room_in (Some o) = o.room

abbrev pub writes_in : Option Outbox → Bool
writes_in None = false
writes_in (Some o) = true

abbrev pub received_in : Option Inbox → List Signal
received_in None = []
received_in (Some i) = signals (received_of i)

abbrev pub coming_in : Option Inbox → List Signal
coming_in None = []
coming_in (Some i) = signals (content_of i.store)

abbrev pub reads_in : Option Inbox → Bool
reads_in None = false
reads_in (Some i) = true

-- what is seen of these boxes, at edges of these kinds
abbrev pub contents_of : ℕ → List Kind → List (Option Outbox) → List (Option Inbox) → Contents
contents_of capacity kinds os is = record {
  ends = record {
    sent = λ e. at_line sent_in os e [];
    received = λ e. at_line received_in is e [];
    coming = λ e. at_line coming_in is e [];
    room = λ e. at_line room_in os e 0;
    kind = λ e. slice_get kinds e;
    writes = λ e. at_line writes_in os e false;
    reads = λ e. at_line reads_in is e false;
  };
  leaving = λ e. at_line leaving_in os e [];
  count = length os;
  capacity = capacity;
}

abbrev pub contents : Boxes → Contents
contents b = contents_of b.capacity b.kinds.items b.outboxes.items b.inboxes.items

abbrev pub view_of : Boxes → View
view_of b = (contents b).ends
