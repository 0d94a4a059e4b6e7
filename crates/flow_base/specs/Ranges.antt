-- Integers that lie in the range of a dialect, and items of a kind, wherever they stand.
use Rattle.std.specs.Prelude.{◌≡◌, true, List, [], ◌∷◌}
use Rattle.snesl_data.specs.declared.dialect.Dialect.{Dialect}
use Rattle.snesl_data.specs.Integers.{IsInteger}
use Rattle.snesl_data.specs.Values.{Value, Values, an_int, a_bool, a_pair, a_vec, a_seq, no_values, more_values}
use Rattle.flow_messages.specs.Cells.{Cell, unit, flag, int, datum, is_of}
use Rattle.flow_messages.specs.Signals.{Signal, carry, stop}
use Rattle.flow_messages.specs.declared.message.Kind.{Kind}

-- the integers in the value lie in the range of the dialect
abbrev mutual
  pub InRange : Dialect → Value → Type 0
  InRange dialect (an_int n) = IsInteger dialect n
  InRange dialect (a_bool b) = Unit {0}
  InRange dialect (a_pair first second) = InRange dialect first × InRange dialect second
  InRange dialect (a_vec vs) = AllInRange dialect vs
  InRange dialect (a_seq vs) = AllInRange dialect vs

  pub AllInRange : Dialect → Values → Type 0
  AllInRange dialect no_values = Unit {0}
  AllInRange dialect (more_values v vs) = InRange dialect v × AllInRange dialect vs

-- the integers that the cell carries lie in the range of the dialect
abbrev pub CellInRange : Dialect → Cell → Type 0
CellInRange dialect unit = Unit {0}
CellInRange dialect (flag b) = Unit {0}
CellInRange dialect (int n) = IsInteger dialect n
CellInRange dialect (datum v) = InRange dialect v

-- the integers that the signal carries lie in the range of the dialect
abbrev pub SignalInRange : Dialect → Signal → Type 0
SignalInRange dialect (carry x) = CellInRange dialect x
SignalInRange dialect stop = Unit {0}

abbrev pub SignalsInRange : Dialect → List Signal → Type 0
SignalsInRange dialect [] = Unit {0}
SignalsInRange dialect (m ∷ ms) = SignalInRange dialect m × SignalsInRange dialect ms

-- each cell is of the kind
abbrev pub AllOf : Kind → List Cell → Type 0
AllOf kind [] = Unit {0}
AllOf kind (x ∷ xs) = (is_of kind x ≡ true) × AllOf kind xs

-- the signal is the end, or carries an item of the kind
abbrev pub SignalOfKind : Kind → Signal → Type 0
SignalOfKind kind (carry x) = is_of kind x ≡ true
SignalOfKind kind stop = Unit {0}

abbrev pub SignalsOfKind : Kind → List Signal → Type 0
SignalsOfKind kind [] = Unit {0}
SignalsOfKind kind (m ∷ ms) = SignalOfKind kind m × SignalsOfKind kind ms
