-- What a source over a text holds: the items of its edge, all of one kind, and how many of them are written.
use Rattle.std.specs.Prelude.{◌≡◌, ℕ, ◌-◌, ◌==◌, Bool, true, false, List, [], ◌∷◌, ◌++◌, length, drop, map, Option, Some, None, option_to_list, cond, slice_get, refl}
use Rattle.std.proofs.Common.{ap}
use Rattle.snesl_data.specs.Values.{Value}
use Rattle.flow_messages.specs.Cells.{Cell, flag, is_of}
use Rattle.flow_messages.specs.declared.message.Kind.{Kind}
use Rattle.flow_messages.specs.declared.message.Kind.TheVariants.{Bool as BoolKind, Int as IntKind, Vec as VecKind}
use Rattle.flow_base.specs.Ranges.{AllOf}
use Rattle.flow_scalar.specs.Streams.{Items}
use Rattle.flow_scalar.specs.SourceBehaviour.{SourceState, sending, finished}
use Rattle.snesl_values.specs.declared.marks.Bracket.TheVariants.{Round, Square, Curly}
use Rattle.snesl_values.specs.declared.marks.Mark.{Mark}
use Rattle.snesl_values.specs.declared.marks.Mark.TheVariants.{Truth, Number, Open, Close, Comma}
use Rattle.flow_nodes.specs.declared.inputs.turns.Component.{Component}
use Rattle.flow_nodes.specs.declared.inputs.turns.Component.TheVariants.{Elements, First, Second}
use Rattle.flow_nodes.specs.declared.inputs.turns.Leaf.{Leaf}
use Rattle.flow_nodes.specs.declared.inputs.turns.Leaf.TheVariants.{Flags, Bools, Ints, Vectors}
use Rattle.flow_nodes.specs.declared.inputs.turns.Mode.{Mode}
use Rattle.flow_nodes.specs.declared.inputs.turns.Mode.TheVariants.{Value as ValueNext, Opened, Behind, Passing, Flagging, Counting, Within, Lost}
use Rattle.flow_nodes.specs.declared.inputs.turns.State.{State}
use Rattle.flow_nodes.specs.declared.inputs.turns.Piece.{Piece}
use Rattle.flow_nodes.specs.inputs.Turns.{Transition, turn, turn_by, state, at_leaf, at_value, at_opened, turn_after_value, passed, passing, flagging, counting, inside_vector, made}
use Rattle.snesl_values.specs.Marks.{Spot, spots}
use Rattle.flow_nodes.specs.inputs.Left.{written_from, left, cell}
use Rattle.snesl_values.specs.Places.{value_at}

-- the kind of the items of an edge that carries this
abbrev pub leaf_kind : Leaf → Kind
leaf_kind Flags = BoolKind
leaf_kind Bools = BoolKind
leaf_kind Ints = IntKind
leaf_kind Vectors = VecKind

-- a scanner stands among the flags of a sequence only where the edge carries flags
abbrev pub FlagsOnly : Leaf → Mode → Type 0
FlagsOnly leaf Flagging = leaf ≡ Flags
FlagsOnly leaf (Counting depth) = leaf ≡ Flags
FlagsOnly leaf _ = Unit {0}

module _ (vector : ℕ → Value) where
  -- what a turn writes is of the edge's kind, and the scanner stands where the edge lets it
  abbrev Fine : Leaf → Transition → Type 0
  Fine leaf u = FlagsOnly leaf u.1.mode × AllOf (leaf_kind leaf) (map (cell vector) (option_to_list u.0))

  -- so it is at the end of the way
  leaf_fine : (leaf : Leaf) (level : ℕ) (mark : Mark) (place : ℕ) → Fine leaf (at_leaf leaf level mark place)
  leaf_fine Flags level (Open Curly) place = (refl, tt)
  leaf_fine Bools level (Truth b) place = (tt, (refl, tt))
  leaf_fine Ints level (Number n) place = (tt, (refl, tt))
  leaf_fine Vectors level (Open Square) place = (tt, (refl, tt))
  leaf_fine _ level mark place = (tt, tt)

  -- where a value comes next
  value_fine : (step : Option Component) (leaf : Leaf) (level : ℕ) (mark : Mark) (place : ℕ) → Fine leaf (at_value step leaf level mark place)
  value_fine None leaf level mark place = leaf_fine leaf level mark place
  value_fine (Some Elements) leaf level (Open Curly) place = (tt, tt)
  value_fine (Some First) leaf level (Open Round) place = (tt, tt)
  value_fine (Some Second) leaf level (Open Round) place = (tt, tt)
  value_fine _ leaf level mark place = (tt, tt)

  -- where a sequence was opened on the way
  opened_fine : (step : Option Component) (leaf : Leaf) (level : ℕ) (mark : Mark) (place : ℕ) → Fine leaf (at_opened step leaf level mark place)
  opened_fine step leaf level (Close Curly) place = (tt, tt)
  opened_fine step leaf level mark place = value_fine step leaf level mark place

  -- after a value
  after_fine : (step : Option Component) (leaf : Leaf) (level : ℕ) (mark : Mark) → Fine leaf (turn_after_value step level mark)
  after_fine (Some Elements) leaf level Comma = (tt, tt)
  after_fine (Some First) leaf level Comma = (tt, tt)
  after_fine (Some Elements) leaf level (Close Curly) = (tt, tt)
  after_fine (Some Second) leaf level (Close Round) = (tt, tt)
  after_fine _ leaf level mark = (tt, tt)

  -- in a part that is passed over, outside its brackets
  passed_fine : (step : Option Component) (leaf : Leaf) (level : ℕ) (mark : Mark) → Fine leaf (passed step level mark)
  passed_fine (Some Second) leaf level Comma = (tt, tt)
  passed_fine (Some First) leaf level (Close Round) = (tt, tt)
  passed_fine _ leaf level mark = (tt, tt)

  -- of two turns, whichever is made
  either_fine : (leaf : Leaf) (u v : Transition) → Fine leaf u → Fine leaf v → (b : Bool) → Fine leaf (cond b u v)
  either_fine leaf u v h k true = h
  either_fine leaf u v h k false = k

  -- in a part that is passed over
  passing_fine : (step : Option Component) (leaf : Leaf) (level depth : ℕ) (mark : Mark) → Fine leaf (passing step level depth mark)
  passing_fine step leaf level depth (Open b) = (tt, tt)
  passing_fine step leaf level depth (Close b) = either_fine leaf _ _ (passed_fine step leaf level (Close b)) (tt, tt) (depth == 0)
  passing_fine step leaf level depth mark = either_fine leaf _ _ (passed_fine step leaf level mark) (tt, tt) (depth == 0)

  -- a flag is of the kind of an edge of flags
  a_flag : (leaf : Leaf) (b : Bool) → leaf ≡ Flags → is_of (leaf_kind leaf) (flag b) ≡ true
  a_flag leaf b e = ap (λ l. is_of (leaf_kind l) (flag b)) e

  -- where a sequence was opened whose flags are written
  flagging_fine : (leaf : Leaf) (level : ℕ) (mark : Mark) → leaf ≡ Flags → Fine leaf (flagging level mark)
  flagging_fine leaf level (Close b) e = (tt, (a_flag leaf true e, tt))
  flagging_fine leaf level (Open b) e = (e, (a_flag leaf false e, tt))
  flagging_fine leaf level mark e = (e, (a_flag leaf false e, tt))

  -- in the elements of that sequence
  counting_fine : (leaf : Leaf) (level depth : ℕ) (mark : Mark) → leaf ≡ Flags → Fine leaf (counting level depth mark)
  counting_fine leaf level depth (Open b) e = (e, tt)
  counting_fine leaf level depth (Close b) e = either_fine leaf _ _ (tt, (a_flag leaf true e, tt)) (e, tt) (depth == 0)
  counting_fine leaf level depth Comma e = either_fine leaf _ _ (e, (a_flag leaf false e, tt)) (e, tt) (depth == 0)
  counting_fine leaf level depth mark e = (e, tt)

  -- in a vector
  within_fine : (leaf : Leaf) (level depth : ℕ) (mark : Mark) → Fine leaf (inside_vector level depth mark)
  within_fine leaf level depth (Open b) = (tt, tt)
  within_fine leaf level depth (Close b) = either_fine leaf _ _ (tt, tt) (tt, tt) (depth == 0)
  within_fine leaf level depth mark = (tt, tt)

  -- of each turn
  turn_fine : (mode : Mode) (way : List Component) (leaf : Leaf) (level : ℕ) (mark : Mark) (place : ℕ) → FlagsOnly leaf mode → Fine leaf (turn_by mode way leaf level mark place)
  turn_fine ValueNext way leaf level mark place e = value_fine (slice_get way level) leaf level mark place
  turn_fine Opened way leaf level mark place e = opened_fine (slice_get way level) leaf level mark place
  turn_fine Behind way leaf level mark place e = after_fine (made way level) leaf level mark
  turn_fine (Passing depth) way leaf level mark place e = passing_fine (made way level) leaf level depth mark
  turn_fine Flagging way leaf level mark place e = flagging_fine leaf level mark e
  turn_fine (Counting depth) way leaf level mark place e = counting_fine leaf level depth mark e
  turn_fine (Within depth) way leaf level mark place e = within_fine leaf level depth mark
  turn_fine Lost way leaf level mark place e = (tt, tt)

  -- what one turn writes, and what comes after it
  with_rest : (kind : Kind) (o : Option Piece) (rest : List Piece) → AllOf kind (map (cell vector) (option_to_list o)) →
      AllOf kind (map (cell vector) rest) → AllOf kind (map (cell vector) (option_to_list o ++ rest))
  with_rest kind None rest h k = k
  with_rest kind (Some x) rest h k = (h.0, k)

  -- what is written at some tokens
  run_all_of : (way : List Component) (leaf : Leaf) (tokens : List Spot) (s : State) → FlagsOnly leaf s.mode → AllOf (leaf_kind leaf) (map (cell vector) (written_from way leaf s tokens))
  run_all_of way leaf [] s e = tt
  run_all_of way leaf (x ∷ xs) s e =
      let u = turn way leaf s x.0 x.1 in
      let fine = turn_fine s.mode way leaf s.level x.0 x.1 e in
      with_rest (leaf_kind leaf) u.0 (written_from way leaf u.1 xs) fine.1 (run_all_of way leaf xs u.1 fine.0)

  -- all that is written on the edge is of its kind
  pub left_all_of : (text : List ℕ) (way : List Component) (leaf : Leaf) (at : ℕ) (s : State) → FlagsOnly leaf s.mode → AllOf (leaf_kind leaf) (map (cell vector) (left text way leaf at s))
  unfolding left
  left_all_of text way leaf at s e = run_all_of way leaf (spots text at) s e

-- what is written from this state and offset on, as items
abbrev pub cells_left : List ℕ → List Component → Leaf → ℕ → State → List Cell
cells_left text way leaf at s = map (cell (value_at text)) (left text way leaf at s)

-- the state in which a scanner opens: a value comes next
abbrev pub opening_state : State
opening_state = state 0 ValueNext

-- all items of a source whose value is read from this place on
abbrev pub items_from : List ℕ → List Component → Leaf → ℕ → Items
items_from text way leaf place = record {
  kind = leaf_kind leaf;
  cells = cells_left text way leaf place opening_state;
  all_of = left_all_of (value_at text) text way leaf place opening_state tt;
}

-- how many pieces are written, where the second are left of the first
abbrev pub written_of : List Piece → List Piece → ℕ
written_of whole rest = length whole - length rest

-- the second are the last of the first
abbrev pub IsRest : List Piece → List Piece → Type 0
IsRest whole rest = drop (written_of whole rest) whole ≡ rest

-- what the laws see of a source over a text
abbrev pub text_state : List ℕ → List Component → Leaf → ℕ → ℕ → State → Bool → SourceState
text_state text way leaf place at s true = finished (items_from text way leaf place)
text_state text way leaf place at s false = sending (items_from text way leaf place) (written_of (left text way leaf place opening_state) (left text way leaf at s))
