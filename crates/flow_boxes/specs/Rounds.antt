-- What happens within a round, and between two.
use Rattle.std.specs.Prelude.{◌≡◌, ◌≢◌, ℕ, ◌+◌, ◌≤◌, true, false, List, [], ◌++◌, length, drop, slice_get}
use Rattle.flow_messages.specs.declared.message.Kind.{Kind}
use Rattle.flow_messages.specs.Signals.{Signal}
use Rattle.flow_messages.specs.Ends.{held, SameEnds, SameTraffic}
use Rattle.flow_boxes.specs.Contents.{Contents}

-- the same boxes are there
pub record SameBoxes (a b : Contents) : Type 0 where
  pub ends : SameEnds a.ends b.ends
  pub count : b.count ≡ a.count
  pub capacity : b.capacity ≡ a.capacity

-- the same is new after s and after q
abbrev pub GrowAlike : List Signal → List Signal → List Signal → List Signal → Type 0
GrowAlike s q s' q' = (more : List Signal) × (s' ≡ s ++ more) × (q' ≡ q ++ more)

-- The same boxes within a round: nothing arrives, nothing leaves, and no room is made.
pub record KeepsRound (a b : Contents) : Type 0 where
  -- the same boxes are there, with the same capacity
  pub boxes : SameBoxes a b
  -- what was received and what is coming are together what they were
  pub arrived : (k : ℕ) → a.ends.received k ++ a.ends.coming k ≡ b.ends.received k ++ b.ends.coming k
  -- what was received stays received
  pub received : (k : ℕ) → length (a.ends.received k) ≤ length (b.ends.received k)
  -- what was sent since waits in the outbox, after what was there
  pub sent : (k : ℕ) → GrowAlike (a.ends.sent k) (a.leaving k) (b.ends.sent k) (b.leaving k)
  -- each message that is sent takes one place of the room
  pub places : (k : ℕ) → length (a.ends.sent k) + a.ends.room k ≡ length (b.ends.sent k) + b.ends.room k

-- nothing changed at any edge but e
pub record OthersSame (e : ℕ) (a b : Contents) : Type 0 where
  pub kinds : (k : ℕ) → b.ends.kind k ≡ a.ends.kind k
  pub writes : (k : ℕ) → k ≢ e → b.ends.writes k ≡ a.ends.writes k
  pub reads : (k : ℕ) → k ≢ e → b.ends.reads k ≡ a.ends.reads k
  pub sent : (k : ℕ) → k ≢ e → b.ends.sent k ≡ a.ends.sent k
  pub received : (k : ℕ) → k ≢ e → b.ends.received k ≡ a.ends.received k
  pub coming : (k : ℕ) → k ≢ e → b.ends.coming k ≡ a.ends.coming k
  pub room : (k : ℕ) → k ≢ e → b.ends.room k ≡ a.ends.room k
  pub leaving : (k : ℕ) → k ≢ e → b.leaving k ≡ a.leaving k
  pub count : b.count ≡ a.count
  pub capacity : b.capacity ≡ a.capacity

-- no box is there, and the edges are of these kinds
pub record HasNone (kinds : List Kind) (most : ℕ) (b : Contents) : Type 0 where
  pub writes : (k : ℕ) → b.ends.writes k ≡ false
  pub reads : (k : ℕ) → b.ends.reads k ≡ false
  pub kind : (k : ℕ) → b.ends.kind k ≡ slice_get kinds k
  pub count : b.count ≡ length kinds
  pub capacity : b.capacity ≡ most

-- the writer's box of edge e is there, nothing was sent, and there is room for the capacity
pub record FreshOutbox (e : ℕ) (b : Contents) : Type 0 where
  pub writes : b.ends.writes e ≡ true
  pub sent : b.ends.sent e ≡ []
  pub leaving : b.leaving e ≡ []
  pub room : b.ends.room e ≡ b.capacity

-- the reader's box of edge e is there, nothing was received, and nothing is coming
pub record FreshInbox (e : ℕ) (b : Contents) : Type 0 where
  pub reads : b.ends.reads e ≡ true
  pub received : b.ends.received e ≡ []
  pub coming : b.ends.coming e ≡ []

-- a fresh box of the writer of edge e is there, and else all is as it was
pub record OpensWriter (e : ℕ) (a b : Contents) : Type 0 where
  pub fresh : FreshOutbox e b
  pub others : OthersSame e a b
  pub reads : (k : ℕ) → b.ends.reads k ≡ a.ends.reads k
  pub received : (k : ℕ) → b.ends.received k ≡ a.ends.received k
  pub coming : (k : ℕ) → b.ends.coming k ≡ a.ends.coming k

-- a fresh box of the reader of edge e is there, and else all is as it was
pub record OpensReader (e : ℕ) (a b : Contents) : Type 0 where
  pub fresh : FreshInbox e b
  pub others : OthersSame e a b
  pub writes : (k : ℕ) → b.ends.writes k ≡ a.ends.writes k
  pub sent : (k : ℕ) → b.ends.sent k ≡ a.ends.sent k
  pub room : (k : ℕ) → b.ends.room k ≡ a.ends.room k
  pub leaving : (k : ℕ) → b.leaving k ≡ a.leaving k

-- the writer's box of edge e, which is in w, and the reader's, which is in r, are the two of one edge
pub record IsLinked (w r : Contents) (e : ℕ) : Type 0 where
  -- both are there
  pub writes : w.ends.writes e ≡ true
  pub reads : r.ends.reads e ≡ true
  pub capacity : r.capacity ≡ w.capacity
  -- they take items of the same kind
  pub kinds : r.ends.kind e ≡ w.ends.kind e
  -- what was received, what is coming and what is leaving is what was sent
  pub in_order : (r.ends.received e ++ r.ends.coming e) ++ w.leaving e ≡ w.ends.sent e
  -- what both boxes hold and what may still be put is within the capacity
  pub bound : (held r.ends e + length (w.leaving e)) + w.ends.room e ≤ w.capacity

-- all messages of edge e have arrived
pub record IsCarried (w r : Contents) (e : ℕ) : Type 0 where
  -- what was received and what is coming is what was sent
  pub arrived : r.ends.received e ++ r.ends.coming e ≡ w.ends.sent e
  -- what is coming is what was sent and not received
  pub coming : r.ends.coming e ≡ drop (length (r.ends.received e)) (w.ends.sent e)
  -- nothing is left after
  pub leaving : w.leaving e ≡ []
  -- what is not held is room
  pub room : w.ends.room e + held r.ends e ≡ w.capacity

-- messages of edge e were carried: nothing was sent or received, and nothing changed at the others
pub record CarriesAt (e : ℕ) (a b : Contents) : Type 0 where
  pub boxes : SameBoxes a b
  pub traffic : SameTraffic a.ends b.ends
  pub others : OthersSame e a b

-- the messages of edge e left the writer's box; no reader's box changed
pub record CarriesFrom (e : ℕ) (a b : Contents) : Type 0 where
  pub carries : CarriesAt e a b
  pub coming : (k : ℕ) → b.ends.coming k ≡ a.ends.coming k

-- the messages of edge e came to the reader's box; no writer's box changed
pub record CarriesTo (e : ℕ) (a b : Contents) : Type 0 where
  pub carries : CarriesAt e a b
  pub room : (k : ℕ) → b.ends.room k ≡ a.ends.room k
  pub leaving : (k : ℕ) → b.leaving k ≡ a.leaving k
