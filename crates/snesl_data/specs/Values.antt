-- Values and their types.
use Rattle.std.specs.Prelude.{Bool, List, [], ◌∷◌, map, ℤ}
use Rattle.std.specs.Arc.{arc_value}
use Rattle.snesl_data.specs.declared.datum.Datum.{Datum, Row_of-Datum, end_of-Datum, more_of-Datum}
use Rattle.snesl_data.specs.declared.datum.Datum.TheVariants.{Int, Bool as BoolDatum, Pair', Vec as VecDatum, Seq'}
use Rattle.snesl_data.specs.declared.datum.Elements.{Elements}
use Rattle.snesl_data.specs.declared.datum.Elements.TheVariants.{Ints, Wides, Bools, Others'}
use Rattle.snesl_data.specs.declared.dialect.Dialect.{Dialect}
use Rattle.snesl_data.specs.Integers.{IsInteger}
use Rattle.snesl_data.specs.Types.{Ty, int, bool, pair, vec, seq}

mutual
  -- a value
  pub data Value : Type 0 where
    an_int : ℤ → Value
    a_bool : Bool → Value
    a_pair : Value → Value → Value
    a_vec : Values → Value
    a_seq : Values → Value

  -- values in order
  pub data Values : Type 0 where
    no_values : Values
    more_values : Value → Values → Values

-- the same as a list
abbrev pub list_of : Values → List Value
list_of no_values = []
list_of (more_values v vs) = v ∷ list_of vs

-- a list as values
abbrev pub values_of : List Value → Values
values_of [] = no_values
values_of (v ∷ vs) = more_values v (values_of vs)

abbrev mutual
  -- the value that a datum holds
  pub value_of : Datum → Value
  value_of (Int n) = an_int n
  value_of (BoolDatum b) = a_bool b
  value_of (Pair' p a q b) = a_pair (value_of a) (value_of b)
  value_of (VecDatum elements) = a_vec (elements_of elements)
  value_of (Seq' shape all) = a_seq (row_values all)

  -- the values of the elements of a vector, whichever way they lie
  pub elements_of : Elements → Values
  elements_of (Ints all) = values_of (map an_int (arc_value all).items)
  elements_of (Wides all) = values_of (map an_int (arc_value all).items)
  elements_of (Bools all) = values_of (map a_bool (arc_value all).items)
  elements_of (Others' p shape all) = row_values all

  -- the values of a row of data
  pub row_values : {m : _} → Row_of-Datum m → Values
  row_values end_of-Datum = no_values
  row_values (more_of-Datum d rest) = more_values (value_of d) (row_values rest)

-- the elements of a vector, in order
abbrev pub entries : Elements → List Value
entries elements = list_of (elements_of elements)

-- the value is one of this type, its integers are such as this says, and its items are of one type
abbrev mutual
  pub IsOf : (ℤ → Type 0) → Value → Ty → Type 0
  IsOf Number (an_int n) int = Number n
  IsOf Number (a_bool b) bool = Unit {0}
  IsOf Number (a_pair a b) (pair first second) = IsOf Number a first × IsOf Number b second
  IsOf Number (a_vec vs) (vec item) = AreOf Number vs item
  IsOf Number (a_seq vs) (seq item) = AreOf Number vs item
  IsOf Number _ _ = ⊥

  -- each of the values is
  pub AreOf : (ℤ → Type 0) → Values → Ty → Type 0
  AreOf Number no_values item = Unit {0}
  AreOf Number (more_values v vs) item = IsOf Number v item × AreOf Number vs item

-- the value is of this type by its shape, whatever its integers are
abbrev pub HasShape : Value → Ty → Type 0
HasShape = IsOf (λ _. Unit {0})

-- the value is of this type, and its integers lie in the range of the dialect
abbrev pub HasType : Dialect → Value → Ty → Type 0
HasType dialect = IsOf (IsInteger dialect)

-- each of the values is of this type
abbrev pub AllHaveType : Dialect → Values → Ty → Type 0
AllHaveType dialect = AreOf (IsInteger dialect)
