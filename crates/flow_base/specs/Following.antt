-- Workers that pass items on: what follows from an item of a first input is at most one message, the same to each output.
use Rattle.std.specs.Prelude.{◌≡◌, ℕ, zero, suc, ◌<◌, Bool, true, false, Option, Some, None, List, [], ◌∷◌, ◌&&◌}
use Rattle.flow_messages.specs.Cells.{Cell}
use Rattle.flow_messages.specs.Signals.{Signal, carry, stop, signal_of}
use Rattle.flow_messages.specs.Flats.{message_of}
use Rattle.flow_messages.specs.declared.flat.Flat.{Flat}
use Rattle.flow_base.specs.declared.worker.Ask.{Ask}
use Rattle.flow_base.specs.declared.worker.Ask.TheVariants.{Begin, Take, Give}
use Rattle.flow_base.specs.declared.node.Phase.{Phase}
use Rattle.flow_base.specs.declared.node.Phase.TheVariants.{Working, Closing, Ending, Faulted}
use Rattle.flow_base.specs.Machines.{Machine, gives, move_of, ask_of, state_after_read, OnNext}
use Rattle.flow_base.specs.Nodes.{NodeState}

-- what it says, if there is a message
abbrev pub signals_of : Option Flat → List Signal
signals_of None = []
signals_of (Some x) = signal_of (message_of x) ∷ []

module _ {P S : Type 0} (m : Machine P S) (p : P) where
  -- from s it writes y to so many outputs, from this one on, and may begin again
  abbrev pub Fans : Signal → ℕ → ℕ → S → Type 0
  Fans y q zero s = s ≡ m.start
  Fans y q (suc left) s = (t : S) × (x : Cell) × (carry x ≡ y) × (m.move p s ≡ gives q x t) × Fans y (suc q) left t

  -- from s it writes nothing and may begin again, or writes the message to each output first
  abbrev pub Writes : Option Flat → S → Type 0
  Writes None s = s ≡ m.start
  Writes (Some y) s = (0 < m.outputs p) × Fans (signal_of (message_of y)) 0 (m.outputs p) s

  -- it goes on with the item, and this is all that follows
  abbrev pub Follows : Signal → Option Flat → Type 0
  Follows (carry x) y = OnNext (state_after_read (m.move p m.start) x) (Writes y)
  Follows stop y = ⊥

-- whether the first item of an instance is wanted
abbrev pub is_begin : Ask → Bool
is_begin Begin = true
is_begin (Take p) = false
is_begin (Give q) = false

abbrev pub is_working : Phase → Bool
is_working Working = true
is_working (Closing p) = false
is_working (Ending q) = false
is_working (Faulted kind) = false

-- whether a node passes on: its worker does, and an instance may begin
abbrev pub node_passes : {P S : Type 0} → Machine P S → (P → Bool) → NodeState (P × S) → Bool
node_passes m passes n = is_working n.phase && (is_begin (ask_of (move_of m n.worker)) && passes n.worker.0)
