-- What a value leaves to write, on each way.
use Rattle.std.proofs.Common.{◌≡◌, ℕ, ℤ, ◌+◌, ◌-◌, ◌≤◌, Bool, true, false, cond, eqb, List, [], ◌∷◌, ◌++◌, length, map, Some, None, refl, sym, ap, ◌∙◌, subst, arith, append_assoc}
use Rattle.std.specs.Prelude.{option_to_list, slice_get}
use Rattle.std.proofs.lemmas.Bool.{cond-true, cond-false}
use Rattle.std.proofs.lemmas.Bool.Decides.{nat_tests}
use Rattle.snesl_data.specs.declared.dialect.Dialect.{Dialect}
use Rattle.snesl_data.specs.declared.dialect.Dialect.TheVariants.{Two}
use Rattle.snesl_data.specs.Integers.{IsInteger, is_integer}
use Rattle.snesl_data.specs.Types.{Ty, vec}
use Rattle.snesl_data.specs.Values.{Value, Values, an_int, a_bool, a_pair, a_vec, a_seq, no_values, more_values, list_of, HasType, AllHaveType}
use Rattle.snesl_values.specs.InputTokens.{Token, integer, HasTokens}
use Rattle.snesl_values.specs.Inputs.{value_tokens, items_tokens, further_tokens, right_brace}
use Rattle.flow_messages.specs.Cells.{flag, int as int_cell, datum}
use Rattle.flow_base.specs.Flags.{F, T, elements}
use Rattle.flow_base.specs.Segments.{concatenation_by}
use Rattle.snesl_values.specs.declared.marks.Bracket.TheVariants.{Round, Square, Curly}
use Rattle.snesl_values.specs.declared.marks.Mark.TheVariants.{Truth, Number, Open, Close, Comma, Other}
use Rattle.flow_nodes.specs.declared.inputs.turns.Component.{Component}
use Rattle.flow_nodes.specs.declared.inputs.turns.Component.TheVariants.{Elements, First, Second}
use Rattle.flow_nodes.specs.declared.inputs.turns.Leaf.{Leaf}
use Rattle.flow_nodes.specs.declared.inputs.turns.Leaf.TheVariants.{Flags, Bools, Ints, Vectors}
use Rattle.flow_nodes.specs.declared.inputs.turns.Mode.TheVariants.{Value as ValueNext, Opened, Behind, Passing, Flagging, Counting, Within}
use Rattle.flow_nodes.specs.declared.inputs.turns.Piece.TheVariants.{Flag, Int, VectorAt}
use Rattle.flow_nodes.specs.inputs.Turns.{Transition, turn, state, writes_nothing, at_leaf, at_value, turn_after_value, passed, made}
use Rattle.snesl_values.specs.Marks.{mark_of}
use Rattle.flow_nodes.specs.inputs.Left.{left, elements_in, cell}
use Rattle.flow_nodes.specs.inputs.Ways.{items_on_edge, LeadsToEdge, to_int, to_bool, to_vector, to_flags, by_elements, by_first, by_second, Ahead, TellsValues}
use Rattle.snesl_values.proofs.Spots.{unread}
use Rattle.snesl_values.proofs.Readings.{reads-split, ends_inside}
use Rattle.snesl_values.proofs.Tells.{wide}
use Rattle.flow_nodes.proofs.OfInputs.Lefts.{after_turn}
use Rattle.flow_nodes.proofs.OfInputs.Law.{turned, cells, then_moved, then_wrote, over_value, over_items, passing_passes, counting_passes, within_passes}

-- the way back
made-next : (way : List Component) (level : ℕ) → made way (level + 1) ≡ slice_get way level
made-next way level = let e : eqb (level + 1) 0 ≡ false = grind (arith, nat_tests) in cond-false _ _ _ e ∙ ap (slice_get way) (omega arith)

back : (level : ℕ) → writes_nothing (level + 1 - 1) Behind ≡ writes_nothing level Behind
back level = ap (λ n. writes_nothing n Behind) (omega arith)

-- the first token of a value opens no sequence's end, and stands for an element
first_opened : (vector : ℕ → Value) {text : List ℕ} (way : List Component) (leaf : Leaf) (level : ℕ) (v : Value) (ts : List Token) {from end : ℕ} →
    from ≤ length text → HasTokens text from (value_tokens v ++ ts) end
    → cells vector text way leaf from (state level Opened) ≡ cells vector text way leaf from (state level ValueNext)
first_opened vector {text = text} way leaf level v ts {from = from} {end = end} inside r = by_value v r
  where
    alike : {t : Token} {us : List Token} → HasTokens text from (t ∷ us) end →
        ((place : ℕ) → turn way leaf (state level Opened) (mark_of t) place ≡ turn way leaf (state level ValueNext) (mark_of t) place)
        → cells vector text way leaf from (state level Opened) ≡ cells vector text way leaf from (state level ValueNext)
    alike r e =
        let w = turned inside r in
        ap (map (cell vector)) (w.turns way leaf (state level Opened) ∙ ap (λ (u : Transition). after_turn text way leaf u w.at) (e _) ∙ sym (w.turns way leaf (state level ValueNext)))

    of_number : (n : ℤ) (place : ℕ) (b : Bool) → turn way leaf (state level Opened) (cond b (Number n) Other) place ≡ turn way leaf (state level ValueNext) (cond b (Number n) Other) place
    of_number n place true = refl
    of_number n place false = refl

    by_value : (v : Value) → HasTokens text from (value_tokens v ++ ts) end → cells vector text way leaf from (state level Opened) ≡ cells vector text way leaf from (state level ValueNext)
    by_value (an_int n) r = alike r (λ place. of_number n place (is_integer Two n))
    by_value (a_bool true) r = alike r (λ place. refl)
    by_value (a_bool false) r = alike r (λ place. refl)
    by_value (a_pair a b) r = alike r (λ place. refl)
    by_value (a_vec vs) r = alike r (λ place. refl)
    by_value (a_seq vs) r = alike r (λ place. refl)

first_flagged : (vector : ℕ → Value) {text : List ℕ} (way : List Component) (level : ℕ) (v : Value) (ts : List Token) {from end : ℕ} →
    from ≤ length text → HasTokens text from (value_tokens v ++ ts) end
    → cells vector text way Flags from (state level Flagging) ≡ F ∷ cells vector text way Flags from (state level (Counting 0))
first_flagged vector {text = text} way level v ts {from = from} {end = end} inside r = by_value v r
  where
    alike : {t : Token} {us : List Token} → HasTokens text from (t ∷ us) end →
        ((place : ℕ) → turn way Flags (state level Flagging) (mark_of t) place
        ≡ (Some (Flag false), (turn way Flags (state level (Counting 0)) (mark_of t) place).1))
        → ((place : ℕ) → (turn way Flags (state level (Counting 0)) (mark_of t) place).0 ≡ None)
        → cells vector text way Flags from (state level Flagging) ≡ F ∷ cells vector text way Flags from (state level (Counting 0))
    alike {t = t} r e f =
        let w = turned inside r in
        let one = ap (map (cell vector)) (w.turns way Flags (state level Flagging) ∙ ap (λ (u : Transition). after_turn text way Flags u w.at) (e from)) in
        let two = ap (map (cell vector))
        (w.turns way Flags (state level (Counting 0))
        ∙ ap (λ o. option_to_list o ++ left text way Flags w.at (turn way Flags (state level (Counting 0)) (mark_of t) from).1) (f from)) in
        one ∙ ap (λ l. F ∷ l) (sym two)

    of_number : (n : ℤ) (place : ℕ) (b : Bool) → turn way Flags (state level Flagging) (cond b (Number n) Other) place
        ≡ (Some (Flag false), (turn way Flags (state level (Counting 0)) (cond b (Number n) Other) place).1)
    of_number n place true = refl
    of_number n place false = refl

    of_none : (n : ℤ) (place : ℕ) (b : Bool) → (turn way Flags (state level (Counting 0)) (cond b (Number n) Other) place).0 ≡ None
    of_none n place true = refl
    of_none n place false = refl

    by_value : (v : Value) → HasTokens text from (value_tokens v ++ ts) end → cells vector text way Flags from (state level Flagging) ≡ F ∷ cells vector text way Flags from (state level (Counting 0))
    by_value (an_int n) r = alike r (λ place. of_number n place (is_integer Two n)) (λ place. of_none n place (is_integer Two n))
    by_value (a_bool true) r = alike r (λ place. refl) (λ place. refl)
    by_value (a_bool false) r = alike r (λ place. refl) (λ place. refl)
    by_value (a_pair a b) r = alike r (λ place. refl) (λ place. refl)
    by_value (a_vec vs) r = alike r (λ place. refl) (λ place. refl)
    by_value (a_seq vs) r = alike r (λ place. refl) (λ place. refl)

-- an integer
int_law : (dialect : Dialect) (vector : ℕ → Value) {text : List ℕ} (way : List Component) (level : ℕ) → slice_get way level ≡ None → (n : ℤ) →
    IsInteger dialect n → {from end : ℕ} → from ≤ length text → HasTokens text from (integer n ∷ []) end
    → cells vector text way Ints from (state level ValueNext) ≡ int_cell n ∷ cells vector text way Ints end (state level Behind)
int_law dialect vector {text = text} way level ahead n ranged {from = from} inside r =
    let w = turned inside r in
    then_wrote vector way Ints (state level ValueNext) (Int n) level Behind w
    (ap (λ o. at_value o Ints level (mark_of (integer n)) from) ahead ∙ ap (λ m. at_leaf Ints level m from) (cond-true _ _ _ (wide dialect n ranged)))
    ∙ ap (λ at. int_cell n ∷ cells vector text way Ints at (state level Behind)) (unread w.rest)

bool_law : (vector : ℕ → Value) {text : List ℕ} (way : List Component) (level : ℕ) → slice_get way level ≡ None → (b : Bool) → {from end : ℕ} →
    from ≤ length text → HasTokens text from (value_tokens (a_bool b)) end
    → cells vector text way Bools from (state level ValueNext) ≡ flag b ∷ cells vector text way Bools end (state level Behind)
bool_law vector {text = text} way level ahead true {from = from} inside r =
    let w = turned inside r in
    then_wrote vector way Bools (state level ValueNext) (Flag true) level Behind w (ap (λ o. at_value o Bools level (Truth true) from) ahead)
    ∙ ap (λ at. flag true ∷ cells vector text way Bools at (state level Behind)) (unread w.rest)
bool_law vector {text = text} way level ahead false {from = from} inside r =
    let w = turned inside r in
    then_wrote vector way Bools (state level ValueNext) (Flag false) level Behind w (ap (λ o. at_value o Bools level (Truth false) from) ahead)
    ∙ ap (λ at. flag false ∷ cells vector text way Bools at (state level Behind)) (unread w.rest)

vector_law : (dialect : Dialect) (a : Ty) (vector : ℕ → Value) {text : List ℕ} → TellsValues vector text → (way : List Component) (level : ℕ) →
    slice_get way level ≡ None → (vs : Values) → HasType dialect (a_vec vs) (vec a) → {from end : ℕ} → from ≤ length text →
    HasTokens text from (value_tokens (a_vec vs)) end
    → cells vector text way Vectors from (state level ValueNext) ≡ datum (a_vec vs) ∷ cells vector text way Vectors end (state level Behind)
vector_law dialect a vector {text = text} tells way level ahead vs typed {from = from} {end = end} inside r =
    let opening = turned inside r in
    let all = reads-split (items_tokens vs) _ opening.rest in
    let closing = turned (ends_inside (items_tokens vs) opening.inside all.1) all.2 in
    then_wrote vector way Vectors (state level ValueNext) (VectorAt from) level (Within 0) opening (ap (λ o. at_value o Vectors level (Open Square) from) ahead)
    ∙ ap (λ v. datum (a_vec (elements_in v)) ∷ cells vector text way Vectors opening.at (state level (Within 0))) (tells dialect (vec a) from end (a_vec vs) typed inside r)
    ∙ ap (λ l. datum (a_vec vs) ∷ l) (over_items vector way Vectors level Within (within_passes way Vectors level) vs 0 (λ place. refl) opening.inside all.1
    ∙ then_moved vector way Vectors (state level (Within 0)) level Behind closing refl
    ∙ ap (λ at. cells vector text way Vectors at (state level Behind)) (unread closing.rest))

-- flags
further_flags : (vector : ℕ → Value) {text : List ℕ} (way : List Component) (level : ℕ) (vs : Values) {from end : ℕ} → from ≤ length text →
    HasTokens text from (further_tokens vs ++ right_brace ∷ []) end
    → cells vector text way Flags from (state level (Counting 0)) ≡ elements (length (list_of vs)) (T ∷ []) ++ cells vector text way Flags end (state level Behind)
further_flags vector {text = text} way level no_values inside r =
    let closing = turned inside r in
    then_wrote vector way Flags (state level (Counting 0)) (Flag true) level Behind closing refl
    ∙ ap (λ at. T ∷ cells vector text way Flags at (state level Behind)) (unread closing.rest)
further_flags vector {text = text} way level (more_values v vs) {end = end} inside r =
    let parting = turned inside r in
    let first = reads-split (value_tokens v) (further_tokens vs ++ right_brace ∷ [])
    (subst (λ ts. HasTokens text parting.at ts end) (append_assoc (value_tokens v) (further_tokens vs) (right_brace ∷ [])) parting.rest) in
    then_wrote vector way Flags (state level (Counting 0)) (Flag false) level (Counting 0) parting refl
    ∙ ap (λ l. F ∷ l) (over_value vector way Flags level Counting (counting_passes way Flags level) v 0 parting.inside first.1
    ∙ further_flags vector way level vs (ends_inside (value_tokens v) parting.inside first.1) first.2)

flags_law : (vector : ℕ → Value) {text : List ℕ} (way : List Component) (level : ℕ) → slice_get way level ≡ None → (vs : Values) → {from end : ℕ} →
    from ≤ length text → HasTokens text from (value_tokens (a_seq vs)) end
    → cells vector text way Flags from (state level ValueNext) ≡ elements (length (list_of vs)) (T ∷ []) ++ cells vector text way Flags end (state level Behind)
flags_law vector {text = text} way level ahead vs {from = from} {end = end} inside r =
    let opening = turned inside r in
    then_moved vector way Flags (state level ValueNext) level Flagging opening (ap (λ o. at_value o Flags level (Open Curly) from) ahead)
    ∙ by_items vs opening.at opening.inside opening.rest
  where
    by_items : (vs : Values) (from : ℕ) → from ≤ length text → HasTokens text from (items_tokens vs ++ right_brace ∷ []) end
        → cells vector text way Flags from (state level Flagging) ≡ elements (length (list_of vs)) (T ∷ []) ++ cells vector text way Flags end (state level Behind)
    by_items no_values from inside r =
        let closing = turned inside r in
        then_wrote vector way Flags (state level Flagging) (Flag true) level Behind closing refl
        ∙ ap (λ at. T ∷ cells vector text way Flags at (state level Behind)) (unread closing.rest)
    by_items (more_values v vs) from inside r =
        let q = subst (λ ts. HasTokens text from ts end) (append_assoc (value_tokens v) (further_tokens vs) (right_brace ∷ [])) r in
        let first = reads-split (value_tokens v) (further_tokens vs ++ right_brace ∷ []) q in
        first_flagged vector way level v (further_tokens vs ++ right_brace ∷ []) inside q
        ∙ ap (λ l. F ∷ l) (over_value vector way Flags level Counting (counting_passes way Flags level) v 0 inside first.1
        ∙ further_flags vector way level vs (ends_inside (value_tokens v) inside first.1) first.2)

-- What a value at the front of a way leaves: its items there, and what is left after it.
abbrev pub Leaves : (vector : ℕ → Value) (text : List ℕ) (way : List Component) (leaf : Leaf) (level : ℕ) (rest : List Component) (v : Value) → Type 0
Leaves vector text way leaf level rest v = (from end : ℕ) → from ≤ length text → HasTokens text from (value_tokens v) end
    → cells vector text way leaf from (state level ValueNext) ≡ items_on_edge rest leaf v ++ cells vector text way leaf end (state level Behind)

-- the elements after the first one
further_elements : (dialect : Dialect) (vector : ℕ → Value) {text : List ℕ} (way : List Component) (leaf : Leaf) (level : ℕ) (rest : List Component) (a : Ty) → slice_get way level ≡ Some Elements
    → ((v : Value) → HasType dialect v a → Leaves vector text way leaf (level + 1) rest v) → (vs : Values) → AllHaveType dialect vs a → {from end : ℕ}
    → from ≤ length text → HasTokens text from (further_tokens vs ++ right_brace ∷ []) end
    → cells vector text way leaf from (state (level + 1) Behind) ≡ concatenation_by (items_on_edge rest leaf) (list_of vs) ++ cells vector text way leaf end (state level Behind)
further_elements dialect vector {text = text} way leaf level rest a ahead each no_values typed inside r =
    let closing = turned inside r in
    then_moved vector way leaf (state (level + 1) Behind) level Behind closing (ap (λ o. turn_after_value o (level + 1) (Close Curly)) (made-next way level ∙ ahead) ∙ back level)
    ∙ ap (λ at. cells vector text way leaf at (state level Behind)) (unread closing.rest)
further_elements dialect vector {text = text} way leaf level rest a ahead each (more_values v vs) typed {end = end} inside r =
    let parting = turned inside r in
    let first = reads-split (value_tokens v) (further_tokens vs ++ right_brace ∷ [])
    (subst (λ ts. HasTokens text parting.at ts end) (append_assoc (value_tokens v) (further_tokens vs) (right_brace ∷ [])) parting.rest) in
    then_moved vector way leaf (state (level + 1) Behind) (level + 1) ValueNext parting (ap (λ o. turn_after_value o (level + 1) Comma) (made-next way level ∙ ahead))
    ∙ each v typed.0 _ _ parting.inside first.1
    ∙ ap (λ l. items_on_edge rest leaf v ++ l) (further_elements dialect vector way leaf level rest a ahead each vs typed.1 (ends_inside (value_tokens v) parting.inside first.1) first.2)
    ∙ sym (append_assoc (items_on_edge rest leaf v) (concatenation_by (items_on_edge rest leaf) (list_of vs)) (cells vector text way leaf end (state level Behind)))

elements_law : (dialect : Dialect) (vector : ℕ → Value) (text : List ℕ) (way : List Component) (leaf : Leaf) (level : ℕ) (rest : List Component) (a : Ty) → slice_get way level ≡ Some Elements
    → ((v : Value) → HasType dialect v a → Leaves vector text way leaf (level + 1) rest v) → (vs : Values) → AllHaveType dialect vs a → Leaves vector text way leaf level (Elements ∷ rest) (a_seq vs)
elements_law dialect vector text way leaf level rest a ahead each vs typed from end inside r =
    let opening = turned inside r in
    then_moved vector way leaf (state level ValueNext) (level + 1) Opened opening (ap (λ o. at_value o leaf level (Open Curly) from) ahead)
    ∙ by_items vs typed opening.at opening.inside opening.rest
  where
    by_items : (vs : Values) → AllHaveType dialect vs a → (from : ℕ) → from ≤ length text → HasTokens text from (items_tokens vs ++ right_brace ∷ []) end
        → cells vector text way leaf from (state (level + 1) Opened) ≡ concatenation_by (items_on_edge rest leaf) (list_of vs) ++ cells vector text way leaf end (state level Behind)
    by_items no_values typed from inside r =
        let closing = turned inside r in
        then_moved vector way leaf (state (level + 1) Opened) level Behind closing (back level)
        ∙ ap (λ at. cells vector text way leaf at (state level Behind)) (unread closing.rest)
    by_items (more_values v vs) typed from inside r =
        let q = subst (λ ts. HasTokens text from ts end) (append_assoc (value_tokens v) (further_tokens vs) (right_brace ∷ [])) r in
        let first = reads-split (value_tokens v) (further_tokens vs ++ right_brace ∷ []) q in
        first_opened vector way leaf (level + 1) v (further_tokens vs ++ right_brace ∷ []) inside q
        ∙ each v typed.0 _ _ inside first.1
        ∙ ap (λ l. items_on_edge rest leaf v ++ l) (further_elements dialect vector way leaf level rest a ahead each vs typed.1 (ends_inside (value_tokens v) inside first.1) first.2)
        ∙ sym (append_assoc (items_on_edge rest leaf v) (concatenation_by (items_on_edge rest leaf) (list_of vs)) (cells vector text way leaf end (state level Behind)))

-- pairs
first_law : (vector : ℕ → Value) (text : List ℕ) (way : List Component) (leaf : Leaf) (level : ℕ) (rest : List Component) (a b : Value) → slice_get way level ≡ Some First
    → Leaves vector text way leaf (level + 1) rest a → Leaves vector text way leaf level (First ∷ rest) (a_pair a b)
first_law vector text way leaf level rest a b ahead one from end inside r =
    let opening = turned inside r in
    let first = reads-split (value_tokens a) _ opening.rest in
    let parting = turned (ends_inside (value_tokens a) opening.inside first.1) first.2 in
    let second = reads-split (value_tokens b) _ parting.rest in
    let closing = turned (ends_inside (value_tokens b) parting.inside second.1) second.2 in
    let here = made-next way level ∙ ahead in
    then_moved vector way leaf (state level ValueNext) (level + 1) ValueNext opening (ap (λ o. at_value o leaf level (Open Round) from) ahead)
    ∙ one _ _ opening.inside first.1
    ∙ ap (λ l. items_on_edge rest leaf a ++ l) (then_moved vector way leaf (state (level + 1) Behind) (level + 1) (Passing 0) parting (ap (λ o. turn_after_value o (level + 1) Comma) here)
    ∙ over_value vector way leaf (level + 1) Passing (passing_passes way leaf (level + 1)) b 0 parting.inside second.1
    ∙ then_moved vector way leaf (state (level + 1) (Passing 0)) level Behind closing (ap (λ o. passed o (level + 1) (Close Round)) here ∙ back level)
    ∙ ap (λ at. cells vector text way leaf at (state level Behind)) (unread closing.rest))

second_law : (vector : ℕ → Value) (text : List ℕ) (way : List Component) (leaf : Leaf) (level : ℕ) (rest : List Component) (a b : Value) → slice_get way level ≡ Some Second
    → Leaves vector text way leaf (level + 1) rest b → Leaves vector text way leaf level (Second ∷ rest) (a_pair a b)
second_law vector text way leaf level rest a b ahead two from end inside r =
    let opening = turned inside r in
    let first = reads-split (value_tokens a) _ opening.rest in
    let parting = turned (ends_inside (value_tokens a) opening.inside first.1) first.2 in
    let second = reads-split (value_tokens b) _ parting.rest in
    let closing = turned (ends_inside (value_tokens b) parting.inside second.1) second.2 in
    let here = made-next way level ∙ ahead in
    then_moved vector way leaf (state level ValueNext) (level + 1) (Passing 0) opening (ap (λ o. at_value o leaf level (Open Round) from) ahead)
    ∙ over_value vector way leaf (level + 1) Passing (passing_passes way leaf (level + 1)) a 0 opening.inside first.1
    ∙ then_moved vector way leaf (state (level + 1) (Passing 0)) (level + 1) ValueNext parting (ap (λ o. passed o (level + 1) Comma) here)
    ∙ two _ _ parting.inside second.1
    ∙ ap (λ l. items_on_edge rest leaf b ++ l) (then_moved vector way leaf (state (level + 1) Behind) level Behind closing (ap (λ o. turn_after_value o (level + 1) (Close Round)) here ∙ back level)
    ∙ ap (λ at. cells vector text way leaf at (state level Behind)) (unread closing.rest))

-- the law on every way
pub law : {t : Ty} {rest : List Component} {leaf : Leaf} → LeadsToEdge t rest leaf → (dialect : Dialect) (vector : ℕ → Value) (text : List ℕ) →
    TellsValues vector text → (way : List Component) (level : ℕ) → Ahead way level rest
    → (v : Value) → HasType dialect v t → Leaves vector text way leaf level rest v
law to_int dialect vector text tells way level ahead (an_int n) typed from end inside r = int_law dialect vector way level ahead n typed inside r
law to_bool dialect vector text tells way level ahead (a_bool b) typed from end inside r = bool_law vector way level ahead b inside r
law (to_vector {a = a}) dialect vector text tells way level ahead (a_vec vs) typed from end inside r = vector_law dialect a vector tells way level ahead vs typed inside r
law to_flags dialect vector text tells way level ahead (a_seq vs) typed from end inside r = flags_law vector way level ahead vs inside r
law (by_elements {a = a} {way = rest} {leaf = leaf} on) dialect vector text tells way level ahead (a_seq vs) typed from end inside r =
    elements_law dialect vector text way leaf level rest a ahead.0 (λ v typed. law on dialect vector text tells way (level + 1) ahead.1 v typed) vs typed from end inside r
law (by_first {way = rest} {leaf = leaf} on) dialect vector text tells way level ahead (a_pair a b) typed from end inside r =
    first_law vector text way leaf level rest a b ahead.0 (law on dialect vector text tells way (level + 1) ahead.1 a typed.0) from end inside r
law (by_second {way = rest} {leaf = leaf} on) dialect vector text tells way level ahead (a_pair a b) typed from end inside r =
    second_law vector text way leaf level rest a b ahead.0 (law on dialect vector text tells way (level + 1) ahead.1 b typed.1) from end inside r
law _ dialect vector text tells way level ahead v typed from end inside r = absurd typed
