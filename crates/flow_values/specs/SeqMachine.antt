-- The elements of each vector as a sequence: the machine. Its parameter is the type of the elements, and its state the
-- items that are due; with none of them a vector may come.
use Rattle.std.specs.Prelude.{ℕ, ◌+◌, ◌*◌, zero, true, false, not, Bool, List, [], ◌∷◌, Option, Some, None, cond, drop, length, Result, Ok, Err}
use Rattle.snesl_data.specs.declared.fault.FaultKind.{FaultKind}
use Rattle.snesl_data.specs.declared.fault.FaultKind.TheVariants.{Shape}
use Rattle.snesl_data.specs.Types.{Ty, bool, seq}
use Rattle.snesl_data.specs.Values.{a_vec, elements_of, entries}
use Rattle.snesl_data.specs.declared.datum.Elements.{Elements}
use Rattle.flow_messages.specs.Cells.{Cell, flag, datum}
use Rattle.flow_messages.specs.declared.message.Kind.TheVariants.{Vec as VecKind}
use Rattle.flow_base.specs.Machines.{Move, begins, gives, on_kind, Machine}
use Rattle.flow_base.specs.declared.slices.Moved.{Moved}
use Rattle.flow_values.specs.Shapes.{all_are, kinds_of, kind_at}
use Rattle.flow_values.specs.Flats.{width}
use Rattle.flow_values.specs.Dues.{DueCell, dues_of, segment_dues, output_of, DuesOfKind, DuesInRange}
use Rattle.flow_values.specs.Rows.{SeqRow}

-- a vector of such items is to be written, as a sequence
abbrev pub seq_given : Ty → Cell → Result (List DueCell) FaultKind
seq_given item (datum (a_vec vs)) = cond (all_are item vs) (Ok (dues_of (seq item) 0 (a_vec vs))) (Err Shape)
seq_given item _ = Err Shape

-- a vector begins an instance, and is written before the next one
abbrev pub seq_move : Ty → List DueCell → Move (List DueCell)
seq_move item [] = begins (on_kind VecKind (seq_given item))
seq_move item (d ∷ ds) = gives (output_of (width (seq item)) d.port) d.cell ds

-- the flag before an element
abbrev pub begins_element : ℕ → Cell → Bool
begins_element zero (flag b) = not b
begins_element _ _ = false

-- the items of an element are laid out in memory when its flag is written
abbrev pub seq_takes_memory : List DueCell → Bool
seq_takes_memory [] = false
seq_takes_memory (d ∷ ds) = begins_element d.port d.cell

-- what is due for the elements of a vector from a place on, if one is held
abbrev pub left_dues : Ty → Option Elements → ℕ → List DueCell
left_dues item None place = []
left_dues item (Some elements) place = segment_dues item 0 (drop place (entries elements))

-- whether a vector that is held is of elements of the type
abbrev pub writes_such : Ty → Option Elements → Bool
writes_such item None = true
writes_such item (Some elements) = all_are item (elements_of elements)

-- so many rounds, each a flag and an integer, and so many flags more
abbrev pub rounds_moved : ℕ → ℕ → Moved
rounds_moved rounds ends =
    record { first = 0; second = 0; units = 0; flags = rounds + ends; ints = rounds; steps = 2 * rounds + ends }

abbrev pub seq_machine : Machine Ty (List DueCell)
seq_machine = record {
  sample = bool;
  move = seq_move;
  start = [];
  row = λ item i o. SeqRow item (i 0) o;
  inputs = λ _. 1;
  outputs = λ item. width (seq item);
  kind_in = λ _ _. VecKind;
  kind_out = λ item q. kind_at (kinds_of (seq item)) q;
  debt = λ _ ds. length ds;
  of_kind = λ item ds. DuesOfKind (kinds_of (seq item)) ds;
  in_range = λ dialect _ ds. DuesInRange dialect ds;
  takes_memory = seq_takes_memory;
}
