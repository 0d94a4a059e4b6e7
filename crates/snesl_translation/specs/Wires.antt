-- The streams of a value: which numbers the edges of its type have.
use Rattle.std.specs.Prelude.{ℕ, zero, suc, ◌+◌, List, [], ◌∷◌, ◌++◌}
use Rattle.snesl_data.specs.Types.{Ty, int, bool, pair, vec, seq}
use Rattle.flow_messages.specs.declared.message.Kind.{Kind}
use Rattle.flow_messages.specs.declared.message.Kind.TheVariants.{Unit as UnitKind, Bool as BoolKind, Int as IntKind, Vec as VecKind}
use Rattle.flow_values.specs.Flats.{width}

-- of a scalar type or a vector type one stream, of pairs those of both parts, and of sequences a stream of flags and those
-- of the elements
pub data Wires : Type 0 where
  wire : Ty → ℕ → Wires
  two : Wires → Wires → Wires
  segments : ℕ → Wires → Wires

-- the type whose values they carry
abbrev pub type_of_wires : Wires → Ty
type_of_wires (wire t number) = t
type_of_wires (two first second) = pair (type_of_wires first) (type_of_wires second)
type_of_wires (segments flags items) = seq (type_of_wires items)

-- whether values of the type go over one edge
abbrev pub IsSingle : Ty → Type 0
IsSingle (pair first second) = ⊥
IsSingle (seq item) = ⊥
IsSingle t = Unit {0}

-- each single stream is of such a type
abbrev pub AreWhole : Wires → Type 0
AreWhole (wire t number) = IsSingle t
AreWhole (two first second) = AreWhole first × AreWhole second
AreWhole (segments flags items) = AreWhole items

-- their numbers, edge by edge
abbrev pub numbers_of : Wires → List ℕ
numbers_of (wire t number) = number ∷ []
numbers_of (two first second) = numbers_of first ++ numbers_of second
numbers_of (segments flags items) = flags ∷ numbers_of items

-- the streams of a type from this number on
abbrev pub wires_from : Ty → ℕ → Wires
wires_from (pair first second) number = two (wires_from first number) (wires_from second (number + width first))
wires_from (seq item) number = segments number (wires_from item (suc number))
wires_from t number = wire t number

-- the kind of a stream of this scalar or vector type
abbrev pub kind_of_type : Ty → Kind
kind_of_type int = IntKind
kind_of_type bool = BoolKind
kind_of_type (vec item) = VecKind
kind_of_type _ = UnitKind

-- the stream of a scalar or a vector, and the flags of a sequence
abbrev pub stream_of : Wires → ℕ
stream_of (wire t number) = number
stream_of (two first second) = zero
stream_of (segments flags items) = flags

-- the parts of a pair, and the elements of a sequence
abbrev pub first_wires : Wires → Wires
first_wires (two first second) = first
first_wires wires = wires

abbrev pub second_wires : Wires → Wires
second_wires (two first second) = second
second_wires wires = wires

abbrev pub item_wires : Wires → Wires
item_wires (segments flags items) = items
item_wires wires = wires

-- the type of the elements of a vector or a sequence
abbrev pub item_type : Ty → Ty
item_type (vec item) = item
item_type (seq item) = item
item_type t = t

-- what a name stands for: its streams, or nothing where it may not be used
abbrev pub Bound : Type 0
Bound = List (List ℕ × Wires)
