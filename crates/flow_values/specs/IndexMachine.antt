-- An element of each vector: the machine. Its parameter is the type of the elements.
use Rattle.std.specs.Prelude.{◌≡◌, ℕ, zero, true, false, Bool, List, [], ◌∷◌, Option, Some, None, cond, length, map, Result, Ok, Err}
use Rattle.snesl_data.specs.declared.dialect.Dialect.{Dialect}
use Rattle.snesl_data.specs.declared.fault.FaultKind.{FaultKind}
use Rattle.snesl_data.specs.declared.fault.FaultKind.TheVariants.{Shape, Index}
use Rattle.snesl_data.specs.Types.{Ty, bool}
use Rattle.snesl_data.specs.Values.{Value, Values, a_vec, elements_of}
use Rattle.flow_messages.specs.Cells.{Cell, datum}
use Rattle.flow_messages.specs.declared.message.Kind.{Kind}
use Rattle.flow_messages.specs.declared.message.Kind.TheVariants.{Int as IntKind, Vec as VecKind}
use Rattle.flow_base.specs.Ranges.{AllInRange}
use Rattle.flow_base.specs.Machines.{Move, begins, takes, gives, on_int, on_kind, Machine}
use Rattle.flow_values.specs.Shapes.{all_are, kinds_of, kind_at}
use Rattle.flow_values.specs.Flats.{width}
use Rattle.flow_values.specs.Dues.{DueCell, due_cell, dues_of, output_of, DuesOfKind, DuesInRange}
use Rattle.flow_values.specs.Rows.{element_at, IndexRow}
use Rattle.flow_values.specs.declared.dues.Due.{Due}
use Rattle.snesl_data.specs.declared.datum.Elements.{Elements}

-- how far an instance is: a vector was read, or these items are due, and with none of them the next instance may begin
pub data IndexState : Type 0 where
  held : Values → IndexState
  writing : List DueCell → IndexState

-- what the laws see of a vector that is held, if one is, and of the items that are due
abbrev pub index_state : Option Elements → List Due → IndexState
index_state (Some all) dues = held (elements_of all)
index_state None dues = writing (map due_cell dues)

-- whether a vector that is held is of elements of the type
abbrev pub holds_such : Ty → Option Elements → Bool
holds_such item (Some all) = all_are item (elements_of all)
holds_such item None = true

-- a vector of such items is held
abbrev pub vector_given : Ty → Cell → Result IndexState FaultKind
vector_given item (datum (a_vec vs)) = cond (all_are item vs) (Ok (held vs)) (Err Shape)
vector_given item _ = Err Shape

-- where an element leads, if there is one: to its items
abbrev pub element_given : Ty → Option Value → Result IndexState FaultKind
element_given item (Some e) = Ok (writing (dues_of item 0 e))
element_given item None = Err Index

-- a vector begins an instance, then its index is due, and then the element is written
abbrev pub index_move : Ty → IndexState → Move IndexState
index_move item (writing []) = begins (on_kind VecKind (vector_given item))
index_move item (held vs) = takes 1 (on_int (λ n. element_given item (element_at vs n)))
index_move item (writing (d ∷ ds)) = gives (output_of (width item) d.port) d.cell (writing ds)

-- vectors, then integers
abbrev pub index_kind_in : ℕ → Kind
index_kind_in zero = VecKind
index_kind_in _ = IntKind

-- as many writes as items are due
abbrev pub index_debt : IndexState → ℕ
index_debt (held vs) = 0
index_debt (writing ds) = length ds

-- the vector is of such items; what is due is of the kinds of the edges
abbrev pub index_of_kind : Ty → IndexState → Type 0
index_of_kind item (held vs) = all_are item vs ≡ true
index_of_kind item (writing ds) = DuesOfKind (kinds_of item) ds

-- the integers of what is held or due lie in the range of the dialect
abbrev pub index_in_range : Dialect → IndexState → Type 0
index_in_range dialect (held vs) = AllInRange dialect vs
index_in_range dialect (writing ds) = DuesInRange dialect ds

-- the items of an element are laid out in memory when its index is taken
abbrev pub index_takes_memory : IndexState → Bool
index_takes_memory (held vs) = true
index_takes_memory (writing ds) = false

abbrev pub index_machine : Machine Ty IndexState
index_machine = record {
  sample = bool;
  move = index_move;
  start = writing [];
  row = λ item i o. IndexRow item (i 0) (i 1) o;
  inputs = λ _. 2;
  outputs = λ item. width item;
  kind_in = λ _ p. index_kind_in p;
  kind_out = λ item q. kind_at (kinds_of item) q;
  debt = λ _. index_debt;
  of_kind = index_of_kind;
  in_range = λ dialect _. index_in_range dialect;
  takes_memory = index_takes_memory;
}
