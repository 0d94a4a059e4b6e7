-- What a scan finds, and what it leaves.
use Rattle.std.specs.Prelude.{◌≡◌, ℕ, ◌+◌, ℤ, Bool, false, List, ◌∷◌, ◌++◌, map, take, option_to_list}
use Rattle.flow_nodes.specs.declared.inputs.scanner.Ahead.{Ahead}
use Rattle.flow_nodes.specs.declared.inputs.scanner.Scanned.{Scanned}
use Rattle.flow_nodes.specs.declared.inputs.turns.Component.{Component}
use Rattle.flow_nodes.specs.declared.inputs.turns.Leaf.{Leaf}
use Rattle.flow_nodes.specs.declared.inputs.turns.Mode.{Mode}
use Rattle.flow_nodes.specs.declared.inputs.turns.Piece.TheVariants.{Flag, Int}
use Rattle.flow_nodes.specs.declared.inputs.turns.State.{State}
use Rattle.flow_nodes.specs.inputs.Left.{left}
use Rattle.flow_nodes.specs.inputs.Turns.{state}

-- what is left to write is the piece that was found, if one was, and what is left after it
abbrev pub FindsPiece : List ℕ → List Component → Leaf → ℕ → State → Scanned → Type 0
FindsPiece text way leaf at s found =
    left text way leaf at s ≡ option_to_list found.piece ++ left text way leaf found.at found.state

-- what is left to write is this integer, and what is left from the later offset on in the same state
abbrev pub FindsInt : List ℕ → List Component → Leaf → ℕ → State → ℤ → ℕ → Type 0
FindsInt text way leaf at s n later = left text way leaf at s ≡ Int n ∷ left text way leaf later s

-- what is left to write are the first so many of these integers, and what is left after them
abbrev pub FindsInts : List ℕ → List Component → Leaf → ℕ → State → List ℤ → Ahead → Type 0
FindsInts text way leaf at s ints ahead =
    left text way leaf at s ≡ map Int (take ahead.count ints) ++ left text way leaf ahead.at ahead.state

-- what is left to write are the first so many of these truth values, and what is left after them
abbrev pub FindsFlags : List ℕ → List Component → Leaf → ℕ → State → List Bool → Ahead → Type 0
FindsFlags text way leaf at s flags ahead =
    left text way leaf at s ≡ map Flag (take ahead.count flags) ++ left text way leaf ahead.at ahead.state

-- in this mode what is left to write is the flag of an element, and what is left from the next offset on
abbrev pub FindsElement : List ℕ → ℕ → Mode → Type 0
FindsElement text at mode =
    (way : List Component) (leaf : Leaf) (level : ℕ)
    → left text way leaf at (state level mode) ≡ Flag false ∷ left text way leaf (at + 1) (state level mode)

-- from one offset and mode on the same is left to write as from another
abbrev pub LeavesSame : List ℕ → ℕ → Mode → ℕ → Mode → Type 0
LeavesSame text at mode later next =
    (way : List Component) (leaf : Leaf) (level : ℕ)
    → left text way leaf at (state level mode) ≡ left text way leaf later (state level next)
