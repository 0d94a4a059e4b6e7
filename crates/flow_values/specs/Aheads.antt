-- What is still to be printed, as it stands in memory.
use Rattle.std.specs.Prelude.{◌≡◌, ℕ, true, false, List, [], ◌∷◌, ◌++◌, Bool, Option, Some, None, Result, Ok, Err}
use Rattle.snesl_data.specs.Types.{ty_of}
use Rattle.snesl_data.specs.declared.fault.FaultKind.TheVariants.{Shape}
use Rattle.flow_base.specs.declared.worker.Stop.{Stop}
use Rattle.flow_base.specs.declared.worker.Stop.TheVariants.{Faulted, OutOfMemory}
use Rattle.flow_values.specs.PrintMachine.{Pending, whole, further, PrintReading, print_reading, next, checked, port_of, PrintStage, within, closing, stuck, PrintState, print_state}
use Rattle.flow_values.specs.Shapes.{kind_at, kinds_of}
use Rattle.flow_messages.specs.Cells.{Cell, is_of}
use Rattle.snesl_data.specs.Types.{Ty}
use Rattle.flow_values.specs.declared.pending.Pending.{Pending as PendingInMemory}
use Rattle.flow_values.specs.declared.pending.Pending.TheVariants.{Whole, Second, Further}
use Rattle.flow_values.specs.declared.ahead.Ahead.{Ahead}

abbrev pub pending_of : PendingInMemory → Pending
pending_of (Whole place) = whole false (ty_of place.ty) place.port place.brackets
pending_of (Second place) = whole true (ty_of place.ty) place.port place.brackets
pending_of (Further flags) = further (ty_of flags.item) flags.port flags.brackets

-- the last of the list is the next to be read, and this comes after all
abbrev pub stack : List PendingInMemory → List Pending → List Pending
stack [] after = after
stack (pending ∷ pendings) after = stack pendings (pending_of pending ∷ after)

-- what a call that was given an item answers and makes of what is ahead, where the item leads there
abbrev pub LeadsAhead : (List Pending → List ℕ → Option PrintReading) → Result (Unit {0}) Stop → Ahead → Ahead → Type 0
LeadsAhead there (Ok _) old new = (after : List Pending) → there (stack old.pending.items after) old.text.items ≡ Some (print_reading (stack new.pending.items after) new.text.items)
LeadsAhead there (Err (Faulted kind)) old new = (kind ≡ Shape) × ((after : List Pending) (before : List ℕ) → there after before ≡ None)
LeadsAhead there (Err OutOfMemory) old new = Unit {0}

-- what is found to be ahead of such a call, after any text
abbrev pub Finds : (List Pending → List ℕ → Option PrintReading) → Result Ahead Stop → Type 0
Finds there (Ok ahead) = (after : List Pending) (before : List ℕ) → there after before ≡ Some (print_reading (stack ahead.pending.items after) (before ++ ahead.text.items))
Finds there (Err (Faulted kind)) = (kind ≡ Shape) × ((after : List Pending) (before : List ℕ) → there after before ≡ None)
Finds there (Err OutOfMemory) = Unit {0}

-- how far a transducer is that is stuck or not, with this still to be read, and this end to come next where nothing is
abbrev pub stage_in : Bool → ℕ → List Pending → PrintStage
stage_in true port pending = stuck
stage_in false port [] = closing port
stage_in false port (first ∷ others) = within first others

abbrev pub state_in : Ty → List PendingInMemory → List ℕ → ℕ → Bool → ℕ → PrintState
state_in ty pending text port is_stuck at = print_state ty (stage_in is_stuck port (stack pending [])) text at

-- where an item leads from this step
abbrev pub where_led : PrintStage → PrintState → Cell → Option PrintReading
where_led (within first others) s x = checked (is_of (kind_at (kinds_of s.ty) (port_of first)) x) (next first x others s.text)
where_led _ s x = None

-- what a look ahead answers that was given an item, where the item leads there: what comes in place of the last that is
-- still to be read, and the text that is said
abbrev pub LooksAhead : Option PrintReading → List PendingInMemory → List ℕ → Result Ahead Stop → Type 0
LooksAhead there pending text (Ok ahead) = (rest : List PendingInMemory) × (first : PendingInMemory) × (pending ≡ rest ++ first ∷ [])
    × (there ≡ Some (print_reading (stack ahead.pending.items (stack rest [])) (text ++ ahead.text.items)))
LooksAhead there pending text (Err (Faulted kind)) = there ≡ None
LooksAhead there pending text (Err OutOfMemory) = pending ≡ [] → ⊥
