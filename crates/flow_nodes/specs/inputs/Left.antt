-- What a scanner still has to write.
use Rattle.std.specs.Prelude.{ℕ, List, [], ◌∷◌, ◌++◌, option_to_list}
use Rattle.snesl_data.specs.Values.{Value, Values, a_vec, no_values}
use Rattle.flow_messages.specs.Cells.{Cell, flag, int, datum}
use Rattle.flow_nodes.specs.declared.inputs.turns.Component.{Component}
use Rattle.flow_nodes.specs.declared.inputs.turns.Leaf.{Leaf}
use Rattle.flow_nodes.specs.declared.inputs.turns.State.{State}
use Rattle.flow_nodes.specs.declared.inputs.turns.Piece.{Piece}
use Rattle.flow_nodes.specs.declared.inputs.turns.Piece.TheVariants.{Flag, Int, VectorAt}
use Rattle.flow_nodes.specs.inputs.Turns.{turn}
use Rattle.snesl_values.specs.Marks.{Spot, spots}

-- what is written from this state on at these tokens
abbrev pub written_from : List Component → Leaf → State → List Spot → List Piece
written_from way leaf s [] = []
written_from way leaf s (spot ∷ rest) = (let u = turn way leaf s spot.0 spot.1 in option_to_list u.0 ++ written_from way leaf u.1 rest)

-- what is written from this state and this offset on
unfoldable pub left : List ℕ → List Component → Leaf → ℕ → State → List Piece
left text way leaf at s = written_from way leaf s (spots text at)

-- the elements of the vector that a value is, and none where it is another
abbrev pub elements_in : Value → Values
elements_in (a_vec vs) = vs
elements_in _ = no_values

-- the item that a piece is, where `vector` gives the vector at a place
abbrev pub cell : (ℕ → Value) → Piece → Cell
cell vector (Flag b) = flag b
cell vector (Int n) = int n
cell vector (VectorAt place) = datum (a_vec (elements_in (vector place)))
