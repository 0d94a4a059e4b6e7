-- What a transducer in its place does over the edges that the place names.
use Rattle.std.specs.Prelude.{◌≡◌, ℕ, Bool}
use Rattle.flow_messages.specs.Signals.{Signal}
use Rattle.flow_messages.specs.Ends.{View}
use Rattle.flow_base.specs.Visits.{TakeKinds, LeavesAlone, IsStuck, Visited, Went, BrokeOff}
use Rattle.flow_base.specs.declared.transducer.Transducer.{Ghosts}
use Rattle.flow_networks.specs.declared.placed.Placed.{Placed}
use Rattle.flow_networks.specs.Places.{placed_state}

module _ {X : Type 0} {t : Ghosts X} (placed : Placed X t) where
  -- how many input ports, and how many output ports, it has
  abbrev pub placed_inputs : ℕ
  placed_inputs = t.behaviour.inputs (placed_state placed)

  abbrev pub placed_outputs : ℕ
  placed_outputs = t.behaviour.outputs (placed_state placed)

  -- the edge at each of its output ports takes items of the port's kind
  abbrev pub PlaceTakesKinds : View → Type 0
  PlaceTakesKinds view = TakeKinds placed.outputs.items (t.behaviour.kind_out (placed_state placed)) view

  -- no message is certain to be there that it wants, or no room
  abbrev pub PlaceIsStuck : View → Type 0
  PlaceIsStuck view = IsStuck placed.inputs.items placed.outputs.items view (t.behaviour.process.want (placed_state placed))

  -- nothing was sent or received, and only its own ends may be certain of more
  abbrev pub PlaceLeavesAlone : View → View → Type 0
  PlaceLeavesAlone before after = LeavesAlone placed.inputs.items placed.outputs.items before after

  -- the message that it writes next
  abbrev pub message_of_place : Signal
  message_of_place = t.behaviour.process.written (placed_state placed)

  -- later it has read this message
  abbrev pub PlaceReads : Signal → Placed X t → Type 0
  PlaceReads m later = placed_state later ≡ t.behaviour.process.read (placed_state placed) m

  -- later it has written its message
  abbrev pub PlaceWrites : Placed X t → Type 0
  PlaceWrites later = placed_state later ≡ t.behaviour.process.wrote (placed_state placed)

module _ {X Y : Type 0} {t : Ghosts X} (view : Y → View) (placed : Placed X t) (ends : Y) (placed' : Placed X t) (ends' : Y) where
  -- it made some steps, or none where it could make none; `any` says which
  abbrev pub PlaceVisited : Bool → Type 0
  PlaceVisited any =
      Visited placed.inputs.items placed.outputs.items t.behaviour (placed_state placed) (view ends) (placed_state placed') (view ends') any

  -- it made just so many steps
  abbrev pub PlaceWent : ℕ → Type 0
  PlaceWent steps =
      Went placed.inputs.items placed.outputs.items t.behaviour (placed_state placed) (view ends) (placed_state placed') (view ends') steps

  -- it made some steps, until memory was refused to one
  abbrev pub PlaceBrokeOff : Type 0
  PlaceBrokeOff = BrokeOff placed.inputs.items placed.outputs.items t.behaviour (placed_state placed) (view ends) (placed_state placed') (view ends')
