-- What is left to write where a value begins: what the value puts on the edge, and what is left after it.
use Rattle.std.proofs.Common.{◌≡◌, ℕ, ℤ, ◌+◌, ◌≤◌, Bool, true, false, cond, eqb, List, ◌∷◌, length, map, Option, Some, None, refl, sym, ap, ◌∙◌, arith}
use Rattle.std.proofs.lemmas.Bool.{cond-false, eqb-true}
use Rattle.std.proofs.lemmas.Bool.Decides.{nat_tests}
use Rattle.snesl_data.specs.declared.dialect.Dialect.TheVariants.{Two}
use Rattle.snesl_data.specs.Integers.{is_integer}
use Rattle.snesl_data.specs.Values.{Value, Values, an_int, a_bool, a_pair, a_vec, a_seq, no_values, more_values}
use Rattle.snesl_values.specs.InputTokens.{Token, integer, next_at, HasTokens}
use Rattle.snesl_values.specs.Inputs.{value_tokens, items_tokens, further_tokens}
use Rattle.flow_messages.specs.Cells.{Cell}
use Rattle.snesl_values.specs.declared.marks.Bracket.TheVariants.{Round, Square, Curly}
use Rattle.snesl_values.specs.declared.marks.Mark.TheVariants.{Truth, Number, Other}
use Rattle.flow_nodes.specs.declared.inputs.turns.Component.{Component}
use Rattle.flow_nodes.specs.declared.inputs.turns.Component.TheVariants.{Elements, First, Second}
use Rattle.flow_nodes.specs.declared.inputs.turns.Leaf.{Leaf}
use Rattle.flow_nodes.specs.declared.inputs.turns.Mode.{Mode}
use Rattle.flow_nodes.specs.declared.inputs.turns.Mode.TheVariants.{Passing, Counting, Within}
use Rattle.flow_nodes.specs.declared.inputs.turns.State.{State}
use Rattle.flow_nodes.specs.declared.inputs.turns.Piece.{Piece}
use Rattle.flow_nodes.specs.inputs.Turns.{Transition, turn, state, writes_nothing, wrote, passed, made}
use Rattle.snesl_values.specs.Marks.{mark_of}
use Rattle.flow_nodes.specs.inputs.Left.{left, cell}
use Rattle.snesl_values.proofs.Spots.{unread}
use Rattle.snesl_values.proofs.Readings.{reads-split, read, ends_inside}
use Rattle.flow_nodes.specs.inputs.Passing.{Passes, PassesParts}
use Rattle.flow_nodes.proofs.OfInputs.Lefts.{left_turn, after_turn}

-- the first token was read, the others are to be, and what a scanner makes of it
pub record Turned (text : List ℕ) (from : ℕ) (t : Token) (ts : List Token) (end : ℕ) : Type 0 where
  pub at : ℕ
  pub inside : at ≤ length text
  pub rest : HasTokens text at ts end
  pub turns : (way : List Component) (leaf : Leaf) (s : State) → left text way leaf from s ≡ after_turn text way leaf (turn way leaf s (mark_of t) from) at

pub turned : {text : List ℕ} {from end : ℕ} {t : Token} {ts : List Token} → from ≤ length text → HasTokens text from (t ∷ ts) end → Turned text from t ts end
turned {text = text} {from = from} {t = t} inside r =
    let w = read inside r in
    record {
      at = next_at text from + w.len;
      inside = w.inside;
      rest = w.rest;
      turns = λ way leaf s. left_turn text way leaf from s (t, w.len) inside w.next;
    }

-- what is left, as items
abbrev pub cells : (ℕ → Value) → List ℕ → List Component → Leaf → ℕ → State → List Cell
cells vector text way leaf at s = map (cell vector) (left text way leaf at s)

-- by what the turn does
pub then_moved : {text : List ℕ} {from end : ℕ} {t : Token} {ts : List Token} (vector : ℕ → Value) (way : List Component) (leaf : Leaf) (s : State)
    (level : ℕ) (mode : Mode) (w : Turned text from t ts end)
    → turn way leaf s (mark_of t) from ≡ writes_nothing level mode → cells vector text way leaf from s ≡ cells vector text way leaf w.at (state level mode)
then_moved {text = text} vector way leaf s level mode w e = ap (map (cell vector)) (w.turns way leaf s ∙ ap (λ (u : Transition). after_turn text way leaf u w.at) e)

pub then_wrote : {text : List ℕ} {from end : ℕ} {t : Token} {ts : List Token} (vector : ℕ → Value) (way : List Component) (leaf : Leaf) (s : State)
    (piece : Piece) (level : ℕ) (mode : Mode) (w : Turned text from t ts end)
    → turn way leaf s (mark_of t) from ≡ wrote piece level mode → cells vector text way leaf from s ≡ cell vector piece ∷ cells vector text way leaf w.at (state level mode)
then_wrote {text = text} vector way leaf s piece level mode w e = ap (map (cell vector)) (w.turns way leaf s ∙ ap (λ (u : Transition). after_turn text way leaf u w.at) e)

number_passes : {way : List Component} {leaf : Leaf} {level : ℕ} {mode : ℕ → Mode} → Passes way leaf level mode → (depth place : ℕ) (n : ℤ) →
    turn way leaf (state level (mode depth)) (mark_of (integer n)) place ≡ writes_nothing level (mode depth)
number_passes {way = way} {leaf = leaf} {level = level} {mode = mode} p depth place n = by_range (is_integer Two n)
  where
    by_range : (b : Bool) → turn way leaf (state level (mode depth)) (cond b (Number n) Other) place ≡ writes_nothing level (mode depth)
    by_range true = p.numbers depth place n
    by_range false = p.others depth place

-- a value is passed over
mutual
  pub over_value : (vector : ℕ → Value) {text : List ℕ} (way : List Component) (leaf : Leaf) (level : ℕ) (mode : ℕ → Mode) →
      Passes way leaf level mode → (v : Value) {from end : ℕ} (depth : ℕ) → from ≤ length text → HasTokens text from (value_tokens v) end
      → cells vector text way leaf from (state level (mode depth)) ≡ cells vector text way leaf end (state level (mode depth))
  over_value vector {text = text} way leaf level mode p (an_int n) depth inside r =
      let w = turned inside r in
      then_moved vector way leaf (state level (mode depth)) level (mode depth) w (number_passes p depth _ n)
      ∙ ap (λ at. cells vector text way leaf at (state level (mode depth))) (unread w.rest)
  over_value vector {text = text} way leaf level mode p (a_bool true) depth inside r =
      let w = turned inside r in
      then_moved vector way leaf (state level (mode depth)) level (mode depth) w (p.truths depth _ true)
      ∙ ap (λ at. cells vector text way leaf at (state level (mode depth))) (unread w.rest)
  over_value vector {text = text} way leaf level mode p (a_bool false) depth inside r =
      let w = turned inside r in
      then_moved vector way leaf (state level (mode depth)) level (mode depth) w (p.truths depth _ false)
      ∙ ap (λ at. cells vector text way leaf at (state level (mode depth))) (unread w.rest)
  over_value vector {text = text} way leaf level mode p (a_pair a b) depth inside r =
      let s = state level (mode (depth + 1)) in
      let opening = turned inside r in
      let first = reads-split (value_tokens a) _ opening.rest in
      let parting = turned (ends_inside (value_tokens a) opening.inside first.1) first.2 in
      let second = reads-split (value_tokens b) _ parting.rest in
      let closing = turned (ends_inside (value_tokens b) parting.inside second.1) second.2 in
      then_moved vector way leaf (state level (mode depth)) level (mode (depth + 1)) opening (p.opens depth _ Round)
      ∙ over_value vector way leaf level mode p a (depth + 1) opening.inside first.1
      ∙ then_moved vector way leaf s level (mode (depth + 1)) parting (p.parts depth _)
      ∙ over_value vector way leaf level mode p b (depth + 1) parting.inside second.1
      ∙ then_moved vector way leaf s level (mode depth) closing (p.closes depth _ Round)
      ∙ ap (λ at. cells vector text way leaf at (state level (mode depth))) (unread closing.rest)
  over_value vector {text = text} way leaf level mode p (a_vec vs) depth inside r =
      let opening = turned inside r in
      let all = reads-split (items_tokens vs) _ opening.rest in
      let closing = turned (ends_inside (items_tokens vs) opening.inside all.1) all.2 in
      then_moved vector way leaf (state level (mode depth)) level (mode (depth + 1)) opening (p.opens depth _ Square)
      ∙ over_items vector way leaf level mode p vs (depth + 1) (p.parts depth) opening.inside all.1
      ∙ then_moved vector way leaf (state level (mode (depth + 1))) level (mode depth) closing (p.closes depth _ Square)
      ∙ ap (λ at. cells vector text way leaf at (state level (mode depth))) (unread closing.rest)
  over_value vector {text = text} way leaf level mode p (a_seq vs) depth inside r =
      let opening = turned inside r in
      let all = reads-split (items_tokens vs) _ opening.rest in
      let closing = turned (ends_inside (items_tokens vs) opening.inside all.1) all.2 in
      then_moved vector way leaf (state level (mode depth)) level (mode (depth + 1)) opening (p.opens depth _ Curly)
      ∙ over_items vector way leaf level mode p vs (depth + 1) (p.parts depth) opening.inside all.1
      ∙ then_moved vector way leaf (state level (mode (depth + 1))) level (mode depth) closing (p.closes depth _ Curly)
      ∙ ap (λ at. cells vector text way leaf at (state level (mode depth))) (unread closing.rest)

  -- the items of a vector or a sequence
  pub over_items : (vector : ℕ → Value) {text : List ℕ} (way : List Component) (leaf : Leaf) (level : ℕ) (mode : ℕ → Mode) →
      Passes way leaf level mode → (vs : Values) {from end : ℕ} (depth : ℕ) → PassesParts way leaf level mode depth → from ≤ length text →
      HasTokens text from (items_tokens vs) end
      → cells vector text way leaf from (state level (mode depth)) ≡ cells vector text way leaf end (state level (mode depth))
  over_items vector {text = text} way leaf level mode p no_values depth q inside r = ap (λ at. cells vector text way leaf at (state level (mode depth))) (unread r)
  over_items vector way leaf level mode p (more_values v vs) depth q inside r =
      let first = reads-split (value_tokens v) _ r in
      over_value vector way leaf level mode p v depth inside first.1
      ∙ over_further vector way leaf level mode p vs depth q (ends_inside (value_tokens v) inside first.1) first.2

  over_further : (vector : ℕ → Value) {text : List ℕ} (way : List Component) (leaf : Leaf) (level : ℕ) (mode : ℕ → Mode) → Passes way leaf level mode
      → (vs : Values) {from end : ℕ} (depth : ℕ) → PassesParts way leaf level mode depth → from ≤ length text →
      HasTokens text from (further_tokens vs) end
      → cells vector text way leaf from (state level (mode depth)) ≡ cells vector text way leaf end (state level (mode depth))
  over_further vector {text = text} way leaf level mode p no_values depth q inside r = ap (λ at. cells vector text way leaf at (state level (mode depth))) (unread r)
  over_further vector way leaf level mode p (more_values v vs) depth q inside r =
      let parting = turned inside r in
      let first = reads-split (value_tokens v) _ parting.rest in
      then_moved vector way leaf (state level (mode depth)) level (mode depth) parting (q _)
      ∙ over_value vector way leaf level mode p v depth parting.inside first.1
      ∙ over_further vector way leaf level mode p vs depth q (ends_inside (value_tokens v) parting.inside first.1) first.2

-- three modes pass over values
not_zero : (n : ℕ) → eqb (n + 1) 0 ≡ false
not_zero n = grind (arith, nat_tests)

passed_truth : (step : Option Component) (level : ℕ) (b : Bool) → passed step level (Truth b) ≡ writes_nothing level (Passing 0)
passed_truth None level b = refl
passed_truth (Some Elements) level b = refl
passed_truth (Some First) level b = refl
passed_truth (Some Second) level b = refl

passed_number : (step : Option Component) (level : ℕ) (n : ℤ) → passed step level (Number n) ≡ writes_nothing level (Passing 0)
passed_number None level n = refl
passed_number (Some Elements) level n = refl
passed_number (Some First) level n = refl
passed_number (Some Second) level n = refl

passed_other : (step : Option Component) (level : ℕ) → passed step level Other ≡ writes_nothing level (Passing 0)
passed_other None level = refl
passed_other (Some Elements) level = refl
passed_other (Some First) level = refl
passed_other (Some Second) level = refl

stays : (level depth : ℕ) (u : Transition) → u ≡ writes_nothing level (Passing 0) → cond (eqb depth 0) u (writes_nothing level (Passing depth)) ≡ writes_nothing level (Passing depth)
stays level depth u e = by_test (eqb depth 0) refl
  where
    by_test : (b : Bool) → eqb depth 0 ≡ b → cond b u (writes_nothing level (Passing depth)) ≡ writes_nothing level (Passing depth)
    by_test true h = e ∙ ap (λ n. writes_nothing level (Passing n)) (sym (eqb-true depth 0 h))
    by_test false h = refl

pub passing_passes : (way : List Component) (leaf : Leaf) (level : ℕ) → Passes way leaf level Passing
passing_passes way leaf level = record {
  opens = λ depth place b. refl;
  closes = λ depth place b. cond-false _ _ _ (not_zero depth) ∙ ap (λ n. writes_nothing level (Passing n)) (omega arith);
  parts = λ depth place. cond-false _ _ _ (not_zero depth);
  truths = λ depth place b. stays level depth _ (passed_truth (made way level) level b);
  numbers = λ depth place n. stays level depth _ (passed_number (made way level) level n);
  others = λ depth place. stays level depth _ (passed_other (made way level) level);
  anywhere = λ depth place other mark. refl;
}

pub counting_passes : (way : List Component) (leaf : Leaf) (level : ℕ) → Passes way leaf level Counting
counting_passes way leaf level = record {
  opens = λ depth place b. refl;
  closes = λ depth place b. cond-false _ _ _ (not_zero depth) ∙ ap (λ n. writes_nothing level (Counting n)) (omega arith);
  parts = λ depth place. cond-false _ _ _ (not_zero depth);
  truths = λ depth place b. refl;
  numbers = λ depth place n. refl;
  others = λ depth place. refl;
  anywhere = λ depth place other mark. refl;
}

pub within_passes : (way : List Component) (leaf : Leaf) (level : ℕ) → Passes way leaf level Within
within_passes way leaf level = record {
  opens = λ depth place b. refl;
  closes = λ depth place b. cond-false _ _ _ (not_zero depth) ∙ ap (λ n. writes_nothing level (Within n)) (omega arith);
  parts = λ depth place. refl;
  truths = λ depth place b. refl;
  numbers = λ depth place n. refl;
  others = λ depth place. refl;
  anywhere = λ depth place other mark. refl;
}
