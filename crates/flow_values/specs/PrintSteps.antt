-- How Print goes on, as it stands in memory.
use Rattle.std.specs.Prelude.{◌≡◌, ℕ, ◌+◌, false, List, [], ◌∷◌, ◌++◌, Option, Some, Result}
use Rattle.snesl_data.specs.Types.{ty_of}
use Rattle.snesl_data.specs.declared.ty.Ty.{Ty}
use Rattle.flow_base.specs.declared.worker.Stop.{Stop}
use Rattle.flow_messages.specs.Cells.{cell_of}
use Rattle.flow_messages.specs.declared.message.Item.{Item}
use Rattle.flow_values.specs.Aheads.{LooksAhead, stack, state_in, where_led}
use Rattle.flow_values.specs.PrintMachine.{Pending, PrintReading, PrintState, entered_value, further, print_reading, went_on, whole}
use Rattle.flow_values.specs.declared.ahead.Ahead.{Ahead}
use Rattle.flow_values.specs.declared.pending.Pending.{Pending as PendingInMemory}
use Rattle.flow_values.specs.declared.print.Print.{Print}

-- this was said after the text so far
abbrev pub Says : Ahead → List ℕ → Ahead → Type 0
Says old said new = new.text.items ≡ old.text.items ++ said

-- an element that is to be read, and further ones after it, come before all that was to be read
abbrev pub ElementIsAhead : Ahead → Ty → ℕ → ℕ → Ahead → Type 0
ElementIsAhead old item port brackets new =
    (after : List Pending) → stack new.pending.items after ≡ whole false (ty_of item) (port + 1) 0 ∷ further (ty_of item) port brackets ∷ stack old.pending.items after

-- where the first item of a value of the type leads
abbrev pub entered_item : Ty → ℕ → ℕ → Item → List Pending → List ℕ → Option PrintReading
entered_item ty port brackets item = entered_value (ty_of ty) port brackets (cell_of item)

-- what the laws see of it
abbrev pub print_view : Print → PrintState
print_view n = state_in (ty_of n.ty) n.pending.items n.text.items n.closing n.stuck n.at

-- what a look ahead answers that was given the item
abbrev pub PrintLooksAhead : Print → Item → Result Ahead Stop → Type 0
PrintLooksAhead n item result = LooksAhead (where_led (print_view n).step (print_view n) (cell_of item)) n.pending.items n.text.items result

-- what was to be read next is done, and this comes in its place
abbrev pub PrintAdvances : Print → Ahead → Print → Type 0
PrintAdvances old ahead new =
    (rest : List PendingInMemory) (first : PendingInMemory) → old.pending.items ≡ rest ++ first ∷ []
    → print_view new ≡ went_on (print_view old) (Some (print_reading (stack ahead.pending.items (stack rest [])) (old.text.items ++ ahead.text.items)))
