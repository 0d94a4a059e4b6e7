-- What a text that spells a value holds, edge by edge.
use Rattle.std.specs.Prelude.{◌≡◌, ℕ, ◌<◌, ◌≤◌, List, [], ◌∷◌, length}
use Rattle.snesl_data.specs.declared.dialect.Dialect.{Dialect}
use Rattle.snesl_data.specs.Types.{Ty}
use Rattle.snesl_data.specs.Values.{Value, HasType}
use Rattle.snesl_values.specs.InputTokens.{HasTokens}
use Rattle.snesl_values.specs.Inputs.{value_tokens}
use Rattle.flow_values.specs.Shapes.{kinds_of, kind_at}
use Rattle.flow_values.specs.Flats.{width, flat}
use Rattle.flow_nodes.specs.inputs.Ways.{way_to, leaf_at}
use Rattle.snesl_values.specs.Places.{value_at}
use Rattle.flow_nodes.specs.inputs.Items.{items_from, leaf_kind}

-- the items of a source at an edge of the type are the edge's part of what the value puts on the edges of its type
abbrev pub TextHoldsEdges : Type 0
TextHoldsEdges = (dialect : Dialect) (t : Ty) (edge : ℕ) (text : List ℕ) (from end : ℕ) (v : Value) → edge < width t → HasType dialect v t →
    from ≤ length text → HasTokens text from (value_tokens v) end
    → (items_from text (way_to t edge) (leaf_at t edge) from).cells ≡ flat t 0 (v ∷ []) edge

-- the items of a source at an edge of the type are of the kind of the edge
abbrev pub KindsOfEdges : Type 0
KindsOfEdges = (t : Ty) (edge : ℕ) → edge < width t → leaf_kind (leaf_at t edge) ≡ kind_at (kinds_of t) edge

-- the value that is read from an offset on is the one that the text spells there
abbrev pub TextTellsValues : Type 0
TextTellsValues = (dialect : Dialect) (t : Ty) (text : List ℕ) (from end : ℕ) (v : Value) → HasType dialect v t → from ≤ length text → HasTokens text from (value_tokens v) end → value_at text from ≡ v
