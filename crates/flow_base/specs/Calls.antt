-- What the calls of a transducer and of a worker read and write.
use Rattle.std.specs.Prelude.{◌≡◌, ℕ, List, Result}
use Rattle.arrayvec.specs.ArrayVec.{ArrayVec}
use Rattle.flow_messages.specs.Cells.{cell_of}
use Rattle.flow_messages.specs.Ends.{View}
use Rattle.flow_messages.specs.Flats.{flat_signals}
use Rattle.flow_messages.specs.Signals.{signal_of}
use Rattle.flow_messages.specs.declared.flat.Flat.{Flat}
use Rattle.flow_messages.specs.declared.message.Item.{Item}
use Rattle.flow_messages.specs.declared.message.Msg.{Msg}
use Rattle.flow_base.specs.Machines.{Machine, move_of, state_after_read, state_after_write, with_parameters, written_cell}
use Rattle.flow_base.specs.Passing.{PassedOn}
use Rattle.flow_base.specs.Transducers.{Behaviour}
use Rattle.flow_base.specs.Visits.{PortsHaveEdges}
use Rattle.flow_base.specs.Workers.{Takes}
use Rattle.flow_base.specs.declared.worker.Stop.{Stop}

module _ {S : Type 0} (b : Behaviour S) where
  -- the message was read
  abbrev pub ReadsMessage : S → Msg → S → Type 0
  ReadsMessage s message t = t ≡ b.process.read s (signal_of message)

  -- the message was written
  abbrev pub WritesMessage : S → Msg → S → Type 0
  WritesMessage s message t = (signal_of message ≡ b.process.written s) × (t ≡ b.process.wrote s)

  -- the block was read, and all that follows from it was written
  abbrev pub PassedBlock : {X : Type 0} → (X → S) → X → ArrayVec Flat → X → ArrayVec Flat → Type 0
  PassedBlock state x block y out = PassedOn b (state x) (flat_signals block.items) (state y) (flat_signals out.items)

module _ {P S : Type 0} (m : Machine P S) where
  -- what a worker answers and leaves that was given the item
  abbrev pub TakesItem : P × S → Item → Result (Unit {0}) Stop → P × S → Type 0
  TakesItem s item result t = Takes (with_parameters s.0 (state_after_read (move_of m s) (cell_of item))) s result t

  -- a worker gave the item
  abbrev pub GivesItem : P × S → Item → P × S → Type 0
  GivesItem s item t =
      (cell_of item ≡ written_cell (move_of m s))
      × (t ≡ (s.0, state_after_write s.1 (move_of m s)))

  -- the ports of a worker have these edges, and their ends are there
  abbrev pub HasEdges : P × S → List ℕ → List ℕ → View → Type 0
  HasEdges s inputs outputs v = PortsHaveEdges inputs outputs (m.inputs s.0) (m.outputs s.0) v
