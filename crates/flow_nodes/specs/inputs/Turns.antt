-- What a token makes of a scanner's state, and what is written then.
use Rattle.std.specs.Prelude.{ℕ, ◌+◌, ◌-◌, ◌==◌, Bool, true, false, List, Option, Some, None, cond, slice_get}
use Rattle.snesl_values.specs.declared.marks.Bracket.TheVariants.{Round, Square, Curly}
use Rattle.snesl_values.specs.declared.marks.Mark.{Mark}
use Rattle.snesl_values.specs.declared.marks.Mark.TheVariants.{Truth, Number, Open, Close, Comma}
use Rattle.flow_nodes.specs.declared.inputs.turns.Component.{Component}
use Rattle.flow_nodes.specs.declared.inputs.turns.Component.TheVariants.{Elements, First, Second}
use Rattle.flow_nodes.specs.declared.inputs.turns.Leaf.{Leaf}
use Rattle.flow_nodes.specs.declared.inputs.turns.Leaf.TheVariants.{Flags, Bools, Ints, Vectors}
use Rattle.flow_nodes.specs.declared.inputs.turns.Mode.{Mode}
use Rattle.flow_nodes.specs.declared.inputs.turns.Mode.TheVariants.{Value, Opened, Behind, Passing, Flagging, Counting, Within, Lost}
use Rattle.flow_nodes.specs.declared.inputs.turns.State.{State}
use Rattle.flow_nodes.specs.declared.inputs.turns.Piece.{Piece}
use Rattle.flow_nodes.specs.declared.inputs.turns.Piece.TheVariants.{Flag, Int, VectorAt}

-- what is written, and the state after
abbrev pub Transition : Type 0
Transition = Option Piece × State

-- the state at this level
abbrev pub state : ℕ → Mode → State
state level mode = record { level = level; mode = mode }

-- nothing is written
abbrev pub writes_nothing : ℕ → Mode → Transition
writes_nothing level mode = (None, state level mode)

-- this is written
abbrev pub wrote : Piece → ℕ → Mode → Transition
wrote piece level mode = (Some piece, state level mode)

-- nothing will be written any more
abbrev pub lost : Transition
lost = writes_nothing 0 Lost

-- a token at the end of the way
abbrev pub at_leaf : Leaf → ℕ → Mark → ℕ → Transition
at_leaf Flags level (Open Curly) place = writes_nothing level Flagging
at_leaf Bools level (Truth b) place = wrote (Flag b) level Behind
at_leaf Ints level (Number n) place = wrote (Int n) level Behind
at_leaf Vectors level (Open Square) place = wrote (VectorAt place) level (Within 0)
at_leaf _ level mark place = lost

-- a token where a value comes next, by the next step of the way
abbrev pub at_value : Option Component → Leaf → ℕ → Mark → ℕ → Transition
at_value None leaf level mark place = at_leaf leaf level mark place
at_value (Some Elements) leaf level (Open Curly) place = writes_nothing (level + 1) Opened
at_value (Some First) leaf level (Open Round) place = writes_nothing (level + 1) Value
at_value (Some Second) leaf level (Open Round) place = writes_nothing (level + 1) (Passing 0)
at_value _ leaf level mark place = lost

-- a token where a sequence was opened on the way
abbrev pub at_opened : Option Component → Leaf → ℕ → Mark → ℕ → Transition
at_opened step leaf level (Close Curly) place = writes_nothing (level - 1) Behind
at_opened step leaf level mark place = at_value step leaf level mark place

-- a token after a value, by the innermost step that was made
abbrev pub turn_after_value : Option Component → ℕ → Mark → Transition
turn_after_value (Some Elements) level Comma = writes_nothing level Value
turn_after_value (Some First) level Comma = writes_nothing level (Passing 0)
turn_after_value (Some Elements) level (Close Curly) = writes_nothing (level - 1) Behind
turn_after_value (Some Second) level (Close Round) = writes_nothing (level - 1) Behind
turn_after_value _ level mark = lost

-- a token in a part that is passed over, outside its brackets: `,` ends a first part, `)` a pair
abbrev pub passed : Option Component → ℕ → Mark → Transition
passed (Some Second) level Comma = writes_nothing level Value
passed (Some First) level (Close Round) = writes_nothing (level - 1) Behind
passed _ level mark = writes_nothing level (Passing 0)

-- a token in a part that is passed over, in so many brackets of it
abbrev pub passing : Option Component → ℕ → ℕ → Mark → Transition
passing step level depth (Open b) = writes_nothing level (Passing (depth + 1))
passing step level depth (Close b) = cond (depth == 0) (passed step level (Close b)) (writes_nothing level (Passing (depth - 1)))
passing step level depth mark = cond (depth == 0) (passed step level mark) (writes_nothing level (Passing depth))

-- a token where a sequence was opened whose flags are written
abbrev pub flagging : ℕ → Mark → Transition
flagging level (Close b) = wrote (Flag true) level Behind
flagging level (Open b) = wrote (Flag false) level (Counting 1)
flagging level mark = wrote (Flag false) level (Counting 0)

-- a token in the elements of that sequence, in so many brackets of them
abbrev pub counting : ℕ → ℕ → Mark → Transition
counting level depth (Open b) = writes_nothing level (Counting (depth + 1))
counting level depth (Close b) = cond (depth == 0) (wrote (Flag true) level Behind) (writes_nothing level (Counting (depth - 1)))
counting level depth Comma = cond (depth == 0) (wrote (Flag false) level (Counting 0)) (writes_nothing level (Counting depth))
counting level depth mark = writes_nothing level (Counting depth)

-- a token in a vector, in so many brackets of it
abbrev pub inside_vector : ℕ → ℕ → Mark → Transition
inside_vector level depth (Open b) = writes_nothing level (Within (depth + 1))
inside_vector level depth (Close b) = cond (depth == 0) (writes_nothing level Behind) (writes_nothing level (Within (depth - 1)))
inside_vector level depth mark = writes_nothing level (Within depth)

-- the innermost step that was made
abbrev pub made : List Component → ℕ → Option Component
made way level = cond (level == 0) None (slice_get way (level - 1))

-- what a token makes of a scanner that stands here
abbrev pub turn_by : Mode → List Component → Leaf → ℕ → Mark → ℕ → Transition
turn_by Value way leaf level mark place = at_value (slice_get way level) leaf level mark place
turn_by Opened way leaf level mark place = at_opened (slice_get way level) leaf level mark place
turn_by Behind way leaf level mark place = turn_after_value (made way level) level mark
turn_by (Passing depth) way leaf level mark place = passing (made way level) level depth mark
turn_by Flagging way leaf level mark place = flagging level mark
turn_by (Counting depth) way leaf level mark place = counting level depth mark
turn_by (Within depth) way leaf level mark place = inside_vector level depth mark
turn_by Lost way leaf level mark place = lost

-- what a token makes of a state, where it was looked for from a place on
abbrev pub turn : List Component → Leaf → State → Mark → ℕ → Transition
turn way leaf s mark place = turn_by s.mode way leaf s.level mark place

-- how many brackets are counted as open
abbrev pub depth_of : Mode → ℕ
depth_of (Passing depth) = depth
depth_of (Counting depth) = depth
depth_of (Within depth) = depth
depth_of _ = 0

-- nothing is written any more where a scanner stands here, whatever comes
abbrev pub is_done_by : Mode → ℕ → Bool
is_done_by Behind level = level == 0
is_done_by Lost level = true
is_done_by _ level = false

-- nothing is written any more from this state on, whatever comes
abbrev pub is_done : State → Bool
is_done s = is_done_by s.mode s.level
