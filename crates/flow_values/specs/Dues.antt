-- Items that are due, each with the output that it goes to.
use Rattle.std.specs.Prelude.{◌≡◌, ℕ, ◌+◌, true, List, [], ◌∷◌, ◌++◌, length, cond, nat_lt}
use Rattle.snesl_data.specs.declared.dialect.Dialect.{Dialect}
use Rattle.snesl_data.specs.Types.{Ty, pair, seq}
use Rattle.snesl_data.specs.Values.{Value}
use Rattle.flow_messages.specs.Cells.{Cell, cell_of, is_of}
use Rattle.flow_messages.specs.declared.message.Kind.{Kind}
use Rattle.flow_base.specs.Lists.{Lists, push}
use Rattle.flow_base.specs.Flags.{F, T}
use Rattle.flow_base.specs.Ranges.{CellInRange}
use Rattle.flow_base.specs.Segments.{concatenation_by}
use Rattle.flow_values.specs.Shapes.{cell_for, first_of, second_of, elements_of, kind_at}
use Rattle.flow_values.specs.Flats.{no_cells, width}
use Rattle.flow_values.specs.declared.dues.Due.{Due}

-- What a due item carries, and the number of the output that it goes to.
pub record DueCell : Type 0 where
  pub port : ℕ
  pub cell : Cell

abbrev pub due : ℕ → Cell → DueCell
due port x = record { port = port; cell = x }

abbrev pub due_cell : Due → DueCell
due_cell d = due d.port (cell_of d.item)

-- the flag for an element of a sequence, and then the element
abbrev pub element_dues : ℕ → (Value → List DueCell) → Value → List DueCell
element_dues p dues e = due p F ∷ dues e

-- What a value of the type puts on its edges, the first of which is port p, in the order in which it is written: of a
-- pair the first part and then the second, and of a sequence each element after its flag, and then the last flag.
abbrev pub dues_of : Ty → ℕ → Value → List DueCell
dues_of (pair first second) p v = dues_of first p (first_of v) ++ dues_of second (p + width first) (second_of v)
dues_of (seq item) p v = concatenation_by (element_dues p (λ e. dues_of item (p + 1) e)) (elements_of v) ++ (due p T ∷ [])
dues_of _ p v = due p (cell_for v) ∷ []

-- the same of a sequence of these elements
abbrev pub segment_dues : Ty → ℕ → List Value → List DueCell
segment_dues item p es = concatenation_by (element_dues p (λ e. dues_of item (p + 1) e)) es ++ (due p T ∷ [])

-- the output of this number, and the first where there are not so many
abbrev pub output_of : ℕ → ℕ → ℕ
output_of outputs port = cond (nat_lt port outputs) port 0

-- the due items of each of so many outputs
abbrev pub due_items_at : ℕ → List DueCell → Lists Cell
due_items_at outputs [] = no_cells
due_items_at outputs (d ∷ ds) = push (output_of outputs d.port) d.cell (due_items_at outputs ds)

-- each due item is of the kind of its output
abbrev pub DuesOfKind : List Kind → List DueCell → Type 0
DuesOfKind kinds [] = Unit {0}
DuesOfKind kinds (d ∷ ds) = (is_of (kind_at kinds (output_of (length kinds) d.port)) d.cell ≡ true) × DuesOfKind kinds ds

-- the integers of the due items lie in the range of the dialect
abbrev pub DuesInRange : Dialect → List DueCell → Type 0
DuesInRange dialect [] = Unit {0}
DuesInRange dialect (d ∷ ds) = CellInRange dialect d.cell × DuesInRange dialect ds
