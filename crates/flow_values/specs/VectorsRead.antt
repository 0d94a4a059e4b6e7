-- Vectors that are read, and what comes on edges with vectors.
use Rattle.std.specs.Prelude.{◌≡◌, ℕ, true, false, [], ◌∷◌}
use mathlib.Core.List.{IsPrefix}
use Rattle.snesl_data.specs.Types.{ty_of}
use Rattle.snesl_data.specs.Values.{Values, a_vec, elements_of}
use Rattle.snesl_data.specs.declared.datum.Elements.{Elements}
use Rattle.snesl_data.specs.declared.ty.Ty.{Ty}
use Rattle.flow_messages.specs.Cells.{cell_of, datum}
use Rattle.flow_messages.specs.Ends.{View}
use Rattle.flow_messages.specs.Signals.{carry}
use Rattle.flow_messages.specs.declared.message.Item.{Item}
use Rattle.flow_values.specs.Shapes.{all_are}

-- the item is the vector of these
abbrev pub IsVector : Item → Values → Type 0
IsVector item vs = cell_of item ≡ datum (a_vec vs)

-- each of these is of the type
abbrev pub FitType : Ty → Values → Type 0
FitType ty vs = all_are (ty_of ty) vs ≡ true

-- not each of these is of the type
abbrev pub FailType : Ty → Values → Type 0
FailType ty vs = all_are (ty_of ty) vs ≡ false

-- a vector of these elements comes next on the edge
abbrev pub VectorComes : View → ℕ → Elements → Type 0
VectorComes v edge all = IsPrefix (carry (datum (a_vec (elements_of all))) ∷ []) (v.coming edge)
