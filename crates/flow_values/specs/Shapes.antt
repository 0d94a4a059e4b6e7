-- The test of a value's type, and the kinds of the edges of a type.
use Rattle.std.specs.Prelude.{ℕ, IsTrue, ◌↔◌, Bool, true, false, List, [], ◌∷◌, ◌++◌, Option, Some, None}
use Rattle.std.specs.List.{slice_get}
use Rattle.std.specs.Arc.{arc_value}
use Rattle.std.specs.Global.{Global}
use Rattle.std.specs.declared.sync.Arc.{Arc}
use Rattle.snesl_data.specs.declared.ty.Ty.{Ty as TyTree}
use Rattle.snesl_data.specs.Types.{Ty, ty_of, int, bool, pair, vec, seq}
use Rattle.snesl_data.specs.Values.{Value, Values, an_int, a_bool, a_pair, a_vec, a_seq, list_of, HasShape}
pub use Rattle.flow_messages.specs.Shapes.{is_a, all_are}
use Rattle.flow_messages.specs.Cells.{Cell, flag, int as int_cell, datum}
use Rattle.flow_messages.specs.declared.message.Kind.{Kind}
use Rattle.flow_messages.specs.declared.message.Kind.TheVariants.{Unit as UnitKind, Bool as BoolKind, Int as IntKind, Vec as VecKind}

-- whether it is the type of integers
abbrev pub is_int_type : Ty → Bool
is_int_type int = true
is_int_type _ = false

-- whether it is the type of truth values
abbrev pub is_bool_type : Ty → Bool
is_bool_type bool = true
is_bool_type _ = false

-- the test says yes of just the values that are of the type by their shape
abbrev pub ShapesAreTested : Type 0
ShapesAreTested = (t : Ty) (v : Value) → IsTrue (is_a t v) ↔ HasShape v t

-- the kinds of the edges of the type: one for a scalar or a vector, those of both parts for a pair, and for a sequence
-- flags and then those of its elements
abbrev pub kinds_of : Ty → List Kind
kinds_of int = IntKind ∷ []
kinds_of bool = BoolKind ∷ []
kinds_of (vec item) = VecKind ∷ []
kinds_of (pair first second) = kinds_of first ++ kinds_of second
kinds_of (seq item) = BoolKind ∷ kinds_of item

-- the item that carries a scalar or a vector
abbrev pub cell_for : Value → Cell
cell_for (an_int n) = int_cell n
cell_for (a_bool b) = flag b
cell_for v = datum v

-- the parts of a pair, and the elements of a sequence
abbrev pub first_of : Value → Value
first_of (a_pair a b) = a
first_of v = v

abbrev pub second_of : Value → Value
second_of (a_pair a b) = b
second_of v = v

abbrev pub elements_of : Value → List Value
elements_of (a_seq vs) = list_of vs
elements_of (a_vec vs) = list_of vs
elements_of _ = []

-- the kind of the edge at this port, where there is one
abbrev pub kind_at : List Kind → ℕ → Kind
kind_at kinds p = elim (slice_get kinds p) [ Some kind ↦ kind | None ↦ UnitKind ]

-- the type that is kept of the elements of a vector: none where they are packed, since then a look at the kind is enough
abbrev pub kept_type : Ty → Option Ty
kept_type int = None
kept_type bool = None
kept_type item = Some item

-- the types that are kept of the vectors on the edges of the type, in order
abbrev pub kept_types : Ty → List (Option Ty)
kept_types int = None ∷ []
kept_types bool = None ∷ []
kept_types (vec item) = kept_type item ∷ []
kept_types (pair first second) = kept_types first ++ kept_types second
kept_types (seq item) = None ∷ kept_types item

-- whether the values are of the type that is kept of them, where one is
abbrev pub are_as_known : Option (Arc TyTree Global) → Values → Bool
are_as_known None vs = true
are_as_known (Some of) vs = all_are (ty_of (arc_value of)) vs

-- the type that is shared
abbrev pub shared_type : Option (Arc TyTree Global) → Option Ty
shared_type None = None
shared_type (Some of) = Some (ty_of (arc_value of))
