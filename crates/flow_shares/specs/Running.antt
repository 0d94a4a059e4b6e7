-- What turns of nodes make of them and of their ends.
use Rattle.std.specs.Prelude.{◌≡◌, ℕ, ◌<◌, true}
use Rattle.std.specs.declared.vec.Vec.{Vec}
use Rattle.flow_messages.specs.Ends.{View, SameTraffic}
use Rattle.flow_base.specs.declared.transducer.Transducer.{Ghosts}
use Rattle.flow_networks.specs.declared.placed.Placed.{Placed}
use Rattle.flow_shares.specs.declared.turns.Turns.{Turns}
use Rattle.flow_shares.specs.Shares.{most_turns, AreStuck, HaveMoved, HaveMovedForTurns, HaveMovedAndLost, SpareOthers}

-- the gate heard of each turn of the share with this number that a pump may make
abbrev pub HeardEachTurn : {W : Type 0} → (W → ℕ → ℕ → Type 0) → W → ℕ → Type 0
HeardEachTurn heard gate share = (turn : ℕ) → turn < most_turns → heard gate share turn

module _ {Y : Type 0} (view : Y → View) (ends ends' : Y) where
  -- nothing was sent or received
  abbrev pub NoneMoved : Type 0
  NoneMoved = SameTraffic (view ends) (view ends')

  -- something was sent or received
  abbrev pub SomeMoved : Type 0
  SomeMoved = NoneMoved → ⊥

module _ {X Y Z : Type 0} {t : Ghosts X} (view : Y → View) (nodes : Vec (Placed X t) Z) (ends : Y) where
  -- none of these nodes can step by what its ends are certain of
  abbrev pub NoneCanMove : Type 0
  NoneCanMove = AreStuck (view ends) nodes.items

  -- where nothing was sent or received, none could step
  abbrev pub MovesIfItCan : Y → Type 0
  MovesIfItCan ends' = NoneMoved view ends ends' → NoneCanMove

  module _ (nodes' : Vec (Placed X t) Z) (ends' : Y) where
    -- each went on by reads and writes of its own
    abbrev pub RanOn : Type 0
    RanOn = HaveMoved nodes.items nodes'.items (view ends) (view ends')

    -- they went on until memory was refused: then one message may be lost
    abbrev pub RanAndLost : Type 0
    RanAndLost = HaveMovedAndLost nodes.items nodes'.items (view ends) (view ends')

    -- what ends at no port of theirs were certain of is certain still
    abbrev pub RanApart : Type 0
    RanApart = SpareOthers nodes.items (view ends) (view ends')

    -- they made all turns that a pump may make, and moved at least one message for each so many of them
    abbrev pub RanOften : ℕ → Type 0
    RanOften idle_turns = HaveMovedForTurns most_turns idle_turns nodes.items nodes'.items (view ends) (view ends')

    -- spent turns are all that a pump may make
    abbrev pub OftenIfSpent : ℕ → Turns → Type 0
    OftenIfSpent idle_turns turns = turns.spent ≡ true → RanOften idle_turns
