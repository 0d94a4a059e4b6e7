-- What a store holds.
use Rattle.std.specs.Prelude.{◌≡◌, ◌+◌, ◌<◌, ◌≤◌, true, false, List, [], length, Some}
use Rattle.flow_messages.specs.declared.message.Msg.{Msg}
use Rattle.flow_messages.specs.declared.store.Store.{Store}
use Rattle.flow_messages.specs.declared.items.Items.{Items}
use Rattle.flow_messages.specs.Columns.{content}
use Rattle.flow_messages.specs.Contents.{item_messages}
use Rattle.flow_messages.specs.Signals.{signal_of, has_end}
use Rattle.flow_messages.specs.Kinds.{fits, TakesItems}

-- the messages that the store holds, the oldest first
abbrev pub content_of : Store → List Msg
content_of s = content s.column s.ends

-- the store may hold a message more
abbrev pub StoreHasRoom : Store → Type 0
StoreHasRoom s = length (content_of s) < s.capacity

-- the store may hold these items more
abbrev pub StoreHasRoomFor : Store → Items → Type 0
StoreHasRoomFor s x = length (content_of s) + length (item_messages x) ≤ s.capacity

-- the end of the stream is not among what the store holds
abbrev pub StoreIsOpen : Store → Type 0
StoreIsOpen s = has_end (content_of s) ≡ false

-- the store takes this message: an item of its kind, or the end of the stream
abbrev pub StoreTakes : Store → Msg → Type 0
StoreTakes s m = fits s.kind (signal_of m) ≡ true

-- the store takes these items
abbrev pub StoreTakesItems : Store → Items → Type 0
StoreTakesItems s x = TakesItems (Some s.kind) x

-- nothing follows the end of the stream, where it is among what the first of two stores holds
abbrev pub EndsLast : Store → Store → Type 0
EndsLast a b = has_end (content_of a) ≡ true → content_of b ≡ []

-- the store holds as many messages as it may
abbrev pub StoreIsFull : Store → Type 0
StoreIsFull s = s.capacity ≤ length (content_of s)

-- the store holds these messages now, and takes as many of the same kind as before
pub record StoreBecomes (ms : List Msg) (a b : Store) : Type 0 where
  pub content : content_of b ≡ ms
  pub kind : b.kind ≡ a.kind
  pub capacity : b.capacity ≡ a.capacity
