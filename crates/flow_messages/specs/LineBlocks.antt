-- What a put or a take of many messages changes in a line.
use Rattle.std.specs.Prelude.{◌≡◌, cond, List, ◌++◌}
use Rattle.flow_messages.specs.declared.message.Msg.{Msg}
use Rattle.flow_messages.specs.declared.line.Line.{Line}
use Rattle.flow_messages.specs.Signals.{signals, ended}
use Rattle.flow_messages.specs.Stores.{content_of}

-- these messages were sent, and are held, after all others, unless the stream had ended
pub record SendsBlock (ms : List Msg) (a b : Line) : Type 0 where
  pub sent : b.sent.items ≡ cond (ended (signals a.sent.items)) a.sent.items (a.sent.items ++ ms)
  pub held : content_of b.store ≡ cond (ended (signals a.sent.items)) (content_of a.store) (content_of a.store ++ ms)
  pub kind : b.store.kind ≡ a.store.kind
  pub capacity : b.store.capacity ≡ a.store.capacity

-- nothing was sent, and of what the line held these messages are left
pub record LeavesOnly (ms : List Msg) (a b : Line) : Type 0 where
  pub sent : b.sent.items ≡ a.sent.items
  pub rest : content_of b.store ≡ ms
  pub kind : b.store.kind ≡ a.store.kind
  pub capacity : b.store.capacity ≡ a.store.capacity
