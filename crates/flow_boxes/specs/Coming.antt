-- What messages that come change in a reader's box.
use Rattle.std.specs.Prelude.{◌≡◌, List, ◌++◌}
use Rattle.flow_messages.specs.declared.message.Msg.{Msg}
use Rattle.flow_messages.specs.Stores.{content_of}
use Rattle.flow_boxes.specs.Received.{received_of}
use Rattle.flow_boxes.specs.declared.inbox.Inbox.{Inbox}

-- these messages came after all others, in order, and none was taken
pub record HasCome (ms : List Msg) (a b : Inbox) : Type 0 where
  pub arrived : b.arrived.items ≡ a.arrived.items ++ ms
  pub held : content_of b.store ≡ content_of a.store ++ ms
  pub received : received_of b ≡ received_of a
  pub kind : b.store.kind ≡ a.store.kind
  pub capacity : b.store.capacity ≡ a.store.capacity
