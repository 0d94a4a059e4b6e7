-- The way from a type to one of its edges.
use Rattle.std.specs.Prelude.{◌≡◌, ℕ, zero, suc, ◌+◌, ◌-◌, ◌≤◌, List, [], ◌∷◌, length, cond, nat_lt, Option, Some, None, slice_get}
use Rattle.snesl_data.specs.declared.dialect.Dialect.{Dialect}
use Rattle.snesl_data.specs.Types.{Ty, int, bool, pair, vec, seq}
use Rattle.snesl_data.specs.Values.{Value, HasType}
use Rattle.snesl_values.specs.InputTokens.{HasTokens}
use Rattle.snesl_values.specs.Inputs.{value_tokens}
use Rattle.flow_messages.specs.Cells.{Cell}
use Rattle.flow_base.specs.Flags.{T, elements}
use Rattle.flow_base.specs.Segments.{concatenation_by}
use Rattle.flow_values.specs.Shapes.{kept_type, cell_for, first_of, second_of, elements_of}
use Rattle.flow_values.specs.Flats.{width}
use Rattle.flow_nodes.specs.declared.inputs.turns.Component.{Component}
use Rattle.flow_nodes.specs.declared.inputs.turns.Component.TheVariants.{Elements, First, Second}
use Rattle.flow_nodes.specs.declared.inputs.turns.Leaf.{Leaf}
use Rattle.flow_nodes.specs.declared.inputs.turns.Leaf.TheVariants.{Flags, Bools, Ints, Vectors}

-- the steps from the type to the edge of this number
abbrev pub way_to : Ty → ℕ → List Component
way_to (pair a b) edge = cond (nat_lt edge (width a)) (First ∷ way_to a edge) (Second ∷ way_to b (edge - width a))
way_to (seq a) zero = []
way_to (seq a) (suc edge) = Elements ∷ way_to a edge
way_to _ edge = []

-- what the edge of this number carries
abbrev pub leaf_at : Ty → ℕ → Leaf
leaf_at int edge = Ints
leaf_at bool edge = Bools
leaf_at (vec a) edge = Vectors
leaf_at (pair a b) edge = cond (nat_lt edge (width a)) (leaf_at a edge) (leaf_at b (edge - width a))
leaf_at (seq a) zero = Flags
leaf_at (seq a) (suc edge) = leaf_at a edge

-- the type that is kept of the elements of the vectors there
abbrev pub kept_type_at : Ty → ℕ → Option Ty
kept_type_at int edge = None
kept_type_at bool edge = None
kept_type_at (vec a) edge = kept_type a
kept_type_at (pair a b) edge = cond (nat_lt edge (width a)) (kept_type_at a edge) (kept_type_at b (edge - width a))
kept_type_at (seq a) zero = None
kept_type_at (seq a) (suc edge) = kept_type_at a edge

-- what a value puts on the edge at the end of the way
abbrev pub items_on_edge : List Component → Leaf → Value → List Cell
items_on_edge [] Flags v = elements (length (elements_of v)) (T ∷ [])
items_on_edge [] leaf v = cell_for v ∷ []
items_on_edge (Elements ∷ way) leaf v = concatenation_by (items_on_edge way leaf) (elements_of v)
items_on_edge (First ∷ way) leaf v = items_on_edge way leaf (first_of v)
items_on_edge (Second ∷ way) leaf v = items_on_edge way leaf (second_of v)

-- these steps lead from the type to an edge that carries this
pub data LeadsToEdge : Ty → List Component → Leaf → Type 0 where
  to_int : LeadsToEdge int [] Ints
  to_bool : LeadsToEdge bool [] Bools
  to_vector : {a : Ty} → LeadsToEdge (vec a) [] Vectors
  to_flags : {a : Ty} → LeadsToEdge (seq a) [] Flags
  by_elements : {a : Ty} {way : List Component} {leaf : Leaf} → LeadsToEdge a way leaf → LeadsToEdge (seq a) (Elements ∷ way) leaf
  by_first : {a b : Ty} {way : List Component} {leaf : Leaf} → LeadsToEdge a way leaf → LeadsToEdge (pair a b) (First ∷ way) leaf
  by_second : {a b : Ty} {way : List Component} {leaf : Leaf} → LeadsToEdge b way leaf → LeadsToEdge (pair a b) (Second ∷ way) leaf

-- these are the steps of the whole way from this level on
abbrev pub Ahead : List Component → ℕ → List Component → Type 0
Ahead whole level [] = slice_get whole level ≡ None
Ahead whole level (step ∷ way) = (slice_get whole level ≡ Some step) × Ahead whole (level + 1) way

-- at each offset from which the text spells a value, `vector` gives that value
abbrev pub TellsValues : (ℕ → Value) → List ℕ → Type 0
TellsValues vector text = (dialect : Dialect) (t : Ty) (from end : ℕ) (v : Value) → HasType dialect v t → from ≤ length text → HasTokens text from (value_tokens v) end → vector from ≡ v
