-- What stays of boxes.
use Rattle.std.specs.Prelude.{◌≡◌, ◌≢◌, ℕ}
use Rattle.flow_boxes.specs.Contents.{Contents}
use Rattle.flow_boxes.specs.Rounds.{OthersSame, FreshOutbox, FreshInbox}

-- a fresh box of the writer of edge e is in w, one of its reader is in r, and their capacity and their kind are the same
abbrev pub FreshBoxes : (w r : Contents) (e : ℕ) → Type 0
FreshBoxes w r e = FreshOutbox e w × FreshInbox e r × (r.capacity ≡ w.capacity) × (r.ends.kind e ≡ w.ends.kind e)

-- P of any edge stays where R is done at any edge
abbrev pub StaysThrough : (P : ℕ → Contents → Type 0) (R : ℕ → Contents → Contents → Type 0) → Type 0
StaysThrough P R = (a b : Contents) (e k : ℕ) → P k a → R e a b → P k b

-- P of any edge stays where nothing changed but at another edge
abbrev pub StaysElsewhere : (P : ℕ → Contents → Type 0) → Type 0
StaysElsewhere P = (a b : Contents) (e k : ℕ) → P k a → k ≢ e → OthersSame e a b → P k b
