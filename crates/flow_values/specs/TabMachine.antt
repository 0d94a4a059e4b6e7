-- The elements of each sequence as a vector: the machine. Its parameter is the type of the elements.
use Rattle.std.specs.Prelude.{◌≡◌, ℕ, suc, Bool, true, false, List, [], ◌∷◌, ◌++◌, Some, None, cond, nat_lt, length, map, Result, Ok, Err}
use Rattle.snesl_data.specs.declared.dialect.Dialect.{Dialect}
use Rattle.snesl_data.specs.declared.fault.FaultKind.{FaultKind}
use Rattle.snesl_data.specs.declared.fault.FaultKind.TheVariants.{Shape}
use Rattle.snesl_data.specs.Types.{Ty, bool, seq, is_concrete}
use Rattle.snesl_data.specs.declared.datum.Datum.{Datum}
use Rattle.snesl_data.specs.Values.{Value, a_vec, value_of, values_of}
use Rattle.flow_messages.specs.declared.message.Item.{Item}
use Rattle.flow_messages.specs.Cells.{Cell, datum, cell_of}
use Rattle.flow_messages.specs.declared.message.Kind.TheVariants.{Vec as VecKind}
use Rattle.flow_base.specs.Ranges.{AllInRange, CellInRange}
use Rattle.flow_base.specs.Machines.{Taking, on_flag, on_kind, Move, begins, takes, gives, Machine, one_write}
use Rattle.flow_base.specs.declared.worker.Stop.{Stop}
use Rattle.flow_base.specs.declared.worker.Stop.TheVariants.{Faulted, OutOfMemory}
use Rattle.flow_values.specs.Shapes.{kinds_of, kind_at}
use Rattle.flow_values.specs.Flats.{width}
use Rattle.flow_values.specs.Parts.{Built, built, part_fits}
use Rattle.flow_values.specs.Rows.{TabRow}
use Rattle.flow_values.specs.declared.tab.Stage.{Stage}
use Rattle.flow_values.specs.declared.tab.Stage.TheVariants.{Start, Flag, Item as ItemStage, End}

-- how far an instance is: it begins; or, after these elements, a flag is due, or an item of the next element after
-- these of its items; or a vector of these elements is to be written
pub data TabState : Type 0 where
  start : TabState
  at_flag : List Value → TabState
  at_item : List Value → List Cell → TabState
  at_end : List Value → TabState

-- what the laws see of a stage, of the elements so far and of the items of the next one
abbrev pub tab_state : Stage → List Value → List Cell → TabState
tab_state Start es got = start
tab_state Flag es got = at_flag es
tab_state ItemStage es got = at_item es got
tab_state End es got = at_end es

-- the same of where a flag leads, before the items of an element
abbrev pub staged : List Value → Result Stage FaultKind → Result TabState FaultKind
staged es (Ok stage) = Ok (tab_state stage es [])
staged es (Err kind) = Err kind

-- where a flag leads, after these elements
abbrev pub flag_taking : Ty → List Value → Taking TabState
flag_taking ty es = on_flag (cond (is_concrete ty) (Ok (at_item es [])) (Err Shape)) (cond (is_concrete ty) (Ok (at_end es)) (Err Shape))

-- an element that its items make, and no others, is added
abbrev pub with_element : List Value → Built → Result TabState FaultKind
with_element es (Some (e, [])) = Ok (at_flag (es ++ e ∷ []))
with_element es _ = Err Shape

-- a call answers the value that was made and leaves the items after its own, or there is none and it answers so
abbrev pub MakesDatum : Built → Result Datum Stop → List Item → Type 0
MakesDatum (Some (e, rest)) (Ok d) items = (value_of d ≡ e) × (map cell_of items ≡ rest)
MakesDatum (Some made) (Err (Faulted kind)) items = ⊥
MakesDatum None (Ok d) items = ⊥
MakesDatum None (Err (Faulted kind)) items = kind ≡ Shape
MakesDatum made (Err OutOfMemory) items = Unit {0}

-- where these items of an element lead: to the next, or they make the element
abbrev pub grown : Ty → List Value → List Cell → Result TabState FaultKind
grown ty es got = cond (nat_lt (length got) (width ty)) (Ok (at_item es got)) (with_element es (built ty got))

-- where the next item of an element leads: it is of the kind and the type of its edge
abbrev pub item_given : Ty → List Value → List Cell → Cell → Result TabState FaultKind
item_given ty es got x = cond (nat_lt (length got) (width ty)) (cond (part_fits ty (length got) x) (grown ty es (got ++ x ∷ [])) (Err Shape)) (Err Shape)

-- the edge of the next item of an element, and the first where there is none
abbrev pub item_port : Ty → List Cell → ℕ
item_port ty got = cond (nat_lt (length got) (width ty)) (suc (length got)) 0

-- the vector of these elements
abbrev pub vector_cell : List Value → Cell
vector_cell es = datum (a_vec (values_of es))

-- flags are due, after each F the items of an element, and after T the vector is written
abbrev pub tab_move : Ty → TabState → Move TabState
tab_move ty start = begins (flag_taking ty [])
tab_move ty (at_flag es) = takes 0 (flag_taking ty es)
tab_move ty (at_item es got) = takes (item_port ty got) (on_kind (kind_at (kinds_of (seq ty)) (item_port ty got)) (item_given ty es got))
tab_move ty (at_end es) = gives 0 (vector_cell es) start

-- the integers of each of these items lie in the range of the dialect
abbrev pub CellsInRange : Dialect → List Cell → Type 0
CellsInRange dialect [] = Unit {0}
CellsInRange dialect (x ∷ xs) = CellInRange dialect x × CellsInRange dialect xs

-- the integers of the elements and of the items lie in the range of the dialect
abbrev pub tab_in_range : Dialect → TabState → Type 0
tab_in_range dialect start = Unit {0}
tab_in_range dialect (at_flag es) = AllInRange dialect (values_of es)
tab_in_range dialect (at_item es got) = AllInRange dialect (values_of es) × CellsInRange dialect got
tab_in_range dialect (at_end es) = AllInRange dialect (values_of es)

-- the items of an element are kept in memory, and its value; the elements of the vector are then shared
abbrev pub tab_takes_memory : TabState → Bool
tab_takes_memory (at_item es got) = true
tab_takes_memory (at_end es) = true
tab_takes_memory _ = false

abbrev pub tab_machine : Machine Ty TabState
tab_machine = record {
  sample = bool;
  move = tab_move;
  start = start;
  row = λ ty i o. TabRow ty i (o 0);
  inputs = λ ty. width (seq ty);
  outputs = λ _. 1;
  kind_in = λ ty p. kind_at (kinds_of (seq ty)) p;
  kind_out = λ _ _. VecKind;
  debt = λ ty s. one_write (tab_move ty s);
  of_kind = λ _ _. Unit {0};
  in_range = λ dialect _. tab_in_range dialect;
  takes_memory = tab_takes_memory;
}
