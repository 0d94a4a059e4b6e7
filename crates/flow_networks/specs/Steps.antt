-- What one turn of a node makes of its state and of the ends.
use Rattle.std.specs.Prelude.{◌≡◌, ℕ, ◌<◌, Bool, true, false, List, Result, Ok, Err}
use Rattle.std.specs.declared.alloc.AllocError.{AllocError}
use Rattle.kahn.specs.declared.want.Want.{Want}
use Rattle.kahn.specs.declared.want.Want.TheVariants.{Read, Write, Ended, Faulted}
use Rattle.flow_messages.specs.Signals.{Signal, ended}
use Rattle.flow_messages.specs.Ends.{View, held, LookedForRoom, LookedForMessages, Put, Taken}
use Rattle.flow_base.specs.Transducers.{Behaviour}
use Rattle.flow_networks.specs.declared.edge.Edge.{Edge}
use Rattle.flow_networks.specs.declared.step.Stepped.{Stepped}
use Rattle.flow_networks.specs.declared.step.Stepped.TheVariants.{One, Nothing}
use Rattle.flow_networks.specs.Edges.{in_edge, out_edge}

-- m was put on edge e, where room for it was certain
pub record PutInRoom (before : View) (e : ℕ) (m : Signal) (after : View) : Type 0 where
  pub seen : View
  pub looked : LookedForRoom before e seen
  pub certain : 0 < seen.room e
  pub put : Put seen e m after

module _ {S : Type 0} (b : Behaviour S) (edges : List Edge) (node : ℕ) (s s' : S) (before after : View) where
  -- One event: a message was taken from the edge at the input port that the node wanted, which read it; or
  -- the node wrote, and its message was put on the edge at the output port, or lost where End had been put there.
  abbrev pub Moves : Want → Type 0
  Moves (Read p) = (m : Signal) × Taken before (in_edge edges node p) m after × (s' ≡ b.process.read s m)
  Moves (Write q) =
      let e = out_edge edges node q in
      (s' ≡ b.process.wrote s) × (ended (before.sent e) ≡ false → PutInRoom before e (b.process.written s) after) × (ended (before.sent e) ≡ true → LookedForRoom before e after)
  Moves Ended = ⊥
  Moves (Faulted fault) = ⊥

  -- No event: no message was certain to be there, or no room, or the node was done.
  abbrev pub Stays : Want → Type 0
  Stays (Read p) = (s' ≡ s) × LookedForMessages before (in_edge edges node p) after × (held after (in_edge edges node p) ≡ 0)
  Stays (Write q) = (s' ≡ s) × LookedForRoom before (out_edge edges node q) after × (after.room (out_edge edges node q) ≡ 0)
  Stays Ended = (s' ≡ s) × (after ≡ before)
  Stays (Faulted fault) = (s' ≡ s) × (after ≡ before)

  -- Memory was refused: the message that the node was to read is lost, or it has not written.
  abbrev pub Breaks : Want → Type 0
  Breaks (Read p) = (s' ≡ s) × ((m : Signal) × Taken before (in_edge edges node p) m after)
  Breaks (Write q) = (s' ≡ s) × LookedForRoom before (out_edge edges node q) after
  Breaks Ended = ⊥
  Breaks (Faulted fault) = ⊥

  -- what came of the node's turn, by its answer. Memory is refused only where the step may take memory
  abbrev pub TurnAnswers : Result Stepped AllocError → Type 0
  TurnAnswers (Ok One) = Moves (b.process.want s)
  TurnAnswers (Ok Nothing) = Stays (b.process.want s)
  TurnAnswers (Err error) = (b.takes_memory s ≡ true) × Breaks (b.process.want s)

-- whether something moved
abbrev pub is_one : Stepped → Bool
is_one One = true
is_one Nothing = false
