-- An element of a vector, where both the vector and the index are shown.
use Rattle.std.specs.Prelude.{◌≡◌, ℕ, Bool, true, false, List, [], ◌∷◌, Some}
use Rattle.std.specs.List.{slice_get}
use mathlib.Core.List.{IsPrefix}
use Rattle.snesl_data.specs.Types.{Ty}
use Rattle.snesl_data.specs.Values.{Value, Values, an_int, a_bool, a_vec, list_of}
use Rattle.flow_messages.specs.Cells.{Cell, int, datum}
use Rattle.flow_messages.specs.Signals.{Signal, carry}
use Rattle.flow_values.specs.Shapes.{cell_for}
use Rattle.flow_values.specs.Rows.{Picked}

-- whether it is an integer or a truth value
abbrev pub is_scalar : Value → Bool
is_scalar (an_int n) = true
is_scalar (a_bool b) = true
is_scalar _ = false

-- the values have a scalar at this place, and the item carries it
pub record ScalarAt (vs : Values) (place : ℕ) (x : Cell) : Type 0 where
  pub element : Value
  pub found : slice_get (list_of vs) place ≡ Some element
  pub scalar : is_scalar element ≡ true
  pub carries : x ≡ cell_for element

-- a vector of such items comes next on one edge and an index within it on another, and the item carries the element there
pub record PairShown (item : Ty) (vectors indices : List Signal) (x : Cell) : Type 0 where
  pub picked : Picked item
  pub vector_next : IsPrefix (carry (datum (a_vec picked.vector)) ∷ []) vectors
  pub index_next : IsPrefix (carry (int picked.index) ∷ []) indices
  pub scalar : is_scalar picked.element ≡ true
  pub carries : x ≡ cell_for picked.element
