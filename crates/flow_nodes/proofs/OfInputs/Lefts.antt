-- What is left to write, token by token.
use Rattle.std.proofs.Common.{◌≡◌, ℕ, ◌+◌, ◌≤◌, Bool, true, false, cond, List, [], ◌∷◌, ◌++◌, length, Option, Some, None, refl, ap, ◌∙◌, arith}
use Rattle.std.specs.Prelude.{option_to_list, ◌==◌}
use Rattle.std.proofs.lemmas.Bool.{eqb-true}
use Rattle.snesl_values.specs.InputTokens.{SizedToken, next_at, next_lexeme}
use Rattle.snesl_values.specs.declared.marks.Found.{Found}
use Rattle.snesl_values.specs.declared.marks.Bracket.TheVariants.{Round, Square, Curly}
use Rattle.snesl_values.specs.declared.marks.Mark.{Mark}
use Rattle.snesl_values.specs.declared.marks.Mark.TheVariants.{Truth, Number, Open, Close, Comma}
use Rattle.flow_nodes.specs.declared.inputs.turns.Component.{Component}
use Rattle.flow_nodes.specs.declared.inputs.turns.Component.TheVariants.{Elements, First, Second}
use Rattle.flow_nodes.specs.declared.inputs.turns.Leaf.{Leaf}
use Rattle.flow_nodes.specs.declared.inputs.turns.Leaf.TheVariants.{Flags, Bools, Ints, Vectors}
use Rattle.flow_nodes.specs.declared.inputs.turns.Mode.{Mode}
use Rattle.flow_nodes.specs.declared.inputs.turns.Mode.TheVariants.{Value, Opened, Behind, Passing, Flagging, Counting, Within, Lost}
use Rattle.flow_nodes.specs.declared.inputs.turns.State.{State}
use Rattle.flow_nodes.specs.declared.inputs.turns.Piece.{Piece}
use Rattle.flow_nodes.specs.inputs.Turns.{Transition, turn, turn_by, state, at_leaf, at_value, at_opened, turn_after_value, passed, passing, flagging}
use Rattle.flow_nodes.specs.inputs.Turns.{counting, inside_vector, made, depth_of, is_done, is_done_by}
use Rattle.snesl_values.specs.Marks.{mark_of, Spot, spots, found_from}
use Rattle.flow_nodes.specs.inputs.Left.{written_from, left}
use Rattle.snesl_values.proofs.Spots.{spots_none, spots_some}

-- what is written by a turn and after it
abbrev pub after_turn : List ℕ → List Component → Leaf → Transition → ℕ → List Piece
after_turn text way leaf u end = option_to_list u.0 ++ left text way leaf end u.1

-- at the next token, and where there is none
pub left_turn : (text : List ℕ) (way : List Component) (leaf : Leaf) (at : ℕ) (s : State) (l : SizedToken) → at ≤ length text → next_lexeme text at ≡ Some l
    → left text way leaf at s ≡ after_turn text way leaf (turn way leaf s (mark_of l.0) at) (next_at text at + l.1)
unfolding left
left_turn text way leaf at s l inside_vector e = ap (written_from way leaf s) (spots_some text at l inside_vector e)

pub left_none : (text : List ℕ) (way : List Component) (leaf : Leaf) (at : ℕ) (s : State) → next_lexeme text at ≡ None → left text way leaf at s ≡ []
unfolding left
left_none text way leaf at s e = ap (written_from way leaf s) (spots_none text at e)

-- where nothing is written any more
lost_run : (way : List Component) (leaf : Leaf) (spots : List Spot) → written_from way leaf (state 0 Lost) spots ≡ []
lost_run way leaf [] = refl
lost_run way leaf (x ∷ xs) = lost_run way leaf xs

lost_at : (way : List Component) (leaf : Leaf) (level : ℕ) (spots : List Spot) → written_from way leaf (state level Lost) spots ≡ []
lost_at way leaf level [] = refl
lost_at way leaf level (x ∷ xs) = lost_run way leaf xs

after_all : (way : List Component) (leaf : Leaf) (spots : List Spot) → written_from way leaf (state 0 Behind) spots ≡ []
after_all way leaf [] = refl
after_all way leaf (x ∷ xs) = lost_run way leaf xs

pub left_done : (text : List ℕ) (way : List Component) (leaf : Leaf) (at : ℕ) (s : State) → is_done s ≡ true → left text way leaf at s ≡ []
unfolding left
left_done text way leaf at s done = by_mode s.mode s.level done
  where
    by_mode : (mode : Mode) (level : ℕ) → is_done_by mode level ≡ true → written_from way leaf (state level mode) (spots text at) ≡ []
    by_mode Behind level e = ap (λ n. written_from way leaf (state n Behind) (spots text at)) (eqb-true level 0 e) ∙ after_all way leaf (spots text at)
    by_mode Lost level e = lost_at way leaf level (spots text at)
    by_mode _ level e = absurd (cc)

-- by what was found
pub left_found : (text : List ℕ) (way : List Component) (leaf : Leaf) (at : ℕ) (s : State) (f : Found) → at ≤ length text → Some f ≡ found_from (next_at text at) (next_lexeme text at)
    → left text way leaf at s ≡ after_turn text way leaf (turn way leaf s f.mark at) f.end
left_found text way leaf at s f inside_vector e = by_next (next_lexeme text at) refl e
  where
    by_next : (o : Option SizedToken) → next_lexeme text at ≡ o → Some f ≡ found_from (next_at text at) o → left text way leaf at s ≡ after_turn text way leaf (turn way leaf s f.mark at) f.end
    by_next None is e = absurd (cc)
    by_next (Some l) is e =
        let g : Found = record { mark = mark_of l.0; end = next_at text at + l.1 } in
        let same : g ≡ f = cc in
        left_turn text way leaf at s l inside_vector is ∙ ap (λ (f : Found). after_turn text way leaf (turn way leaf s f.mark at) f.end) same

pub left_unfound : (text : List ℕ) (way : List Component) (leaf : Leaf) (at : ℕ) (s : State) → None ≡ found_from (next_at text at) (next_lexeme text at) → left text way leaf at s ≡ []
left_unfound text way leaf at s e = by_next (next_lexeme text at) refl e
  where
    by_next : (o : Option SizedToken) → next_lexeme text at ≡ o → None ≡ found_from (next_at text at) o → left text way leaf at s ≡ []
    by_next None is e = left_none text way leaf at s is
    by_next (Some l) is e = absurd (cc)

-- a turn opens one bracket more at most
abbrev OneDeeper : ℕ → Transition → Type 0
OneDeeper depth u = depth_of u.1.mode ≤ depth + 1

leaf_deeper : (leaf : Leaf) (level : ℕ) (mark : Mark) (place : ℕ) → OneDeeper 0 (at_leaf leaf level mark place)
leaf_deeper Flags level (Open Curly) place = omega arith
leaf_deeper Bools level (Truth b) place = omega arith
leaf_deeper Ints level (Number n) place = omega arith
leaf_deeper Vectors level (Open Square) place = omega arith
leaf_deeper _ level mark place = omega arith

value_deeper : (step : Option Component) (leaf : Leaf) (level : ℕ) (mark : Mark) (place : ℕ) → OneDeeper 0 (at_value step leaf level mark place)
value_deeper None leaf level mark place = leaf_deeper leaf level mark place
value_deeper (Some Elements) leaf level (Open Curly) place = omega arith
value_deeper (Some First) leaf level (Open Round) place = omega arith
value_deeper (Some Second) leaf level (Open Round) place = omega arith
value_deeper _ leaf level mark place = omega arith

opened_deeper : (step : Option Component) (leaf : Leaf) (level : ℕ) (mark : Mark) (place : ℕ) → OneDeeper 0 (at_opened step leaf level mark place)
opened_deeper step leaf level (Close Curly) place = omega arith
opened_deeper step leaf level mark place = value_deeper step leaf level mark place

after_deeper : (step : Option Component) (level : ℕ) (mark : Mark) → OneDeeper 0 (turn_after_value step level mark)
after_deeper (Some Elements) level Comma = omega arith
after_deeper (Some First) level Comma = omega arith
after_deeper (Some Elements) level (Close Curly) = omega arith
after_deeper (Some Second) level (Close Round) = omega arith
after_deeper _ level mark = omega arith

passed_deeper : (step : Option Component) (level : ℕ) (mark : Mark) → depth_of (passed step level mark).1.mode ≡ 0
passed_deeper (Some Second) level Comma = refl
passed_deeper (Some First) level (Close Round) = refl
passed_deeper _ level mark = refl

by_depth : (depth n : ℕ) (at_ground in_brackets : Transition) → OneDeeper n at_ground → OneDeeper n in_brackets → (b : Bool) → OneDeeper n (cond b at_ground in_brackets)
by_depth depth n at_ground in_brackets h k true = h
by_depth depth n at_ground in_brackets h k false = k

passing_deeper : (step : Option Component) (level depth : ℕ) (mark : Mark) → OneDeeper depth (passing step level depth mark)
passing_deeper step level depth (Open b) = omega arith
passing_deeper step level depth (Close b) = by_depth depth depth _ _ (omega (arith, passed_deeper step level (Close b))) (omega arith) (depth == 0)
passing_deeper step level depth mark = by_depth depth depth _ _ (omega (arith, passed_deeper step level mark)) (omega arith) (depth == 0)

flagging_deeper : (level : ℕ) (mark : Mark) → OneDeeper 0 (flagging level mark)
flagging_deeper level (Close b) = omega arith
flagging_deeper level (Open b) = omega arith
flagging_deeper level mark = omega arith

counting_deeper : (level depth : ℕ) (mark : Mark) → OneDeeper depth (counting level depth mark)
counting_deeper level depth (Open b) = omega arith
counting_deeper level depth (Close b) = by_depth depth depth _ _ (omega arith) (omega arith) (depth == 0)
counting_deeper level depth Comma = by_depth depth depth _ _ (omega arith) (omega arith) (depth == 0)
counting_deeper level depth mark = omega arith

within_deeper : (level depth : ℕ) (mark : Mark) → OneDeeper depth (inside_vector level depth mark)
within_deeper level depth (Open b) = omega arith
within_deeper level depth (Close b) = by_depth depth depth _ _ (omega arith) (omega arith) (depth == 0)
within_deeper level depth mark = omega arith

pub turn_deeper : (way : List Component) (leaf : Leaf) (s : State) (mark : Mark) (place : ℕ) → depth_of (turn way leaf s mark place).1.mode ≤ depth_of s.mode + 1
turn_deeper way leaf s mark place = by_mode s.mode
  where
    by_mode : (mode : Mode) → OneDeeper (depth_of mode) (turn_by mode way leaf s.level mark place)
    by_mode Value = value_deeper _ leaf s.level mark place
    by_mode Opened = opened_deeper _ leaf s.level mark place
    by_mode Behind = after_deeper (made way s.level) s.level mark
    by_mode (Passing depth) = passing_deeper (made way s.level) s.level depth mark
    by_mode Flagging = flagging_deeper s.level mark
    by_mode (Counting depth) = counting_deeper s.level depth mark
    by_mode (Within depth) = within_deeper s.level depth mark
    by_mode Lost = omega arith
