-- What was read of an expression stands in the grammar.
use Rattle.std.proofs.Common.{◌≡◌, ℕ, suc, ◌+◌, ◌-◌, ◌≤◌, true, false, cond, List, [], ◌∷◌, ◌++◌, length, Option, Some, None, Ok, refl, sym, ◌∙◌, ap, subst, arith, append_assoc}
use Rattle.std.proofs.lemmas.Bool.{lt-leb}
use Rattle.std.proofs.lemmas.List.{append-nil}
use Rattle.snesl_grammar.specs.declared.lexer.token.TokenKind.{TokenKind}
use Rattle.snesl_grammar.specs.declared.lexer.token.TokenKind.TheVariants as kinds
use Rattle.snesl_grammar.specs.declared.lexer.token.Token.{Token}
use Rattle.snesl_grammar.specs.declared.tree.operator.Operator.{Operator}
use Rattle.snesl_grammar.specs.declared.tree.operator.Operator.TheVariants.{Or, And, Equal, Less, AtMost, Greater, AtLeast, Append, Add, Subtract, Multiply, Divide, Remainder, Index}
use Rattle.snesl_grammar.specs.declared.tree.operator.Prefix.{Prefix}
use Rattle.snesl_grammar.specs.declared.tree.operator.Prefix.TheVariants.{Negate, Not}
use Rattle.snesl_grammar.specs.declared.tree.operator.Builtin.{Builtin}
use Rattle.snesl_grammar.specs.declared.tree.operator.Builtin.TheVariants as builtins
use Rattle.snesl_grammar.specs.declared.tree.span.Span.{Span}
use Rattle.snesl_grammar.specs.tree.Tree.{Tree, Binders, name, none, depth, depth_of_binders}
use Rattle.snesl_grammar.specs.Operators.{level, left_level, prefix_level, sign, prefix_sign, word}
use Rattle.snesl_grammar.specs.Expressions.{token, name_token, Whole, integer_rule, truth_rule, name_rule, Front, nothing, whole, binary_right}
use Rattle.snesl_grammar.specs.Expressions.{prefix_operand, call_word, call_arguments, apply_arguments, group_inner, pair_second, let_word, let_value}
use Rattle.snesl_grammar.specs.Expressions.{let_body, if_condition, if_positive, if_negative, brace_items, filter_condition, each_binders}
use Rattle.snesl_grammar.specs.Expressions.{each_condition, no_binder, binder_source}
use Rattle.snesl_grammar.specs.Expressions.{let_name as let_name_front, binder_name as binder_name_front}
use Rattle.snesl_syntax.specs.expressions.Machine.{Frame, in_binary, in_prefix, in_call, in_apply, in_value, in_condition, in_source, State, operand, after}
use Rattle.snesl_syntax.specs.expressions.Machine.{opening, let_name, let_equals, binder_name, binder_in, Folded, reduce, floor, at_level, open_move}
use Rattle.snesl_syntax.specs.expressions.Machine.{apply_move, comma_move, paren_move, brace_move, colon_move, bar_move, semicolon_move, in_move, then_move}
use Rattle.snesl_syntax.specs.expressions.Machine.{else_move, joining, operand_move, after_move, token_move, alone, finished_of, expressions}
use Rattle.snesl_syntax.specs.expressions.Readers.{TokenMove, within, step, after_tokens}
use Rattle.snesl_syntax.proofs.OfExpressions.Reading.{bind_ok, within_ok}
use Rattle.snesl_syntax.proofs.OfExpressions.Depths.{depth_pos}
use Rattle.snesl_syntax.proofs.OfExpressions.Spelled.{no_given, Bound, Spells, spells_empty, spells_binary, spells_prefix, spells_call, spells_apply}
use Rattle.snesl_syntax.proofs.OfExpressions.Spelled.{spells_group, spells_second, spells_value, spells_let_body, spells_condition, spells_positive}
use Rattle.snesl_syntax.proofs.OfExpressions.Spelled.{spells_negative, spells_braces, spells_filter, spells_source, spells_each_condition, Stands}
use Rattle.snesl_syntax.proofs.OfExpressions.Spelled.{stands_operand, stands_after, stands_opening, stands_let_name, stands_let_equals, stands_binder_name}
use Rattle.snesl_syntax.proofs.OfExpressions.Spelled.{stands_binder_in, given_front, bound_front}
use Rattle.snesl_syntax.proofs.OfExpressions.Closed.{Good, along, picked, Reduced, reduce_stands, comma_keeps, paren_keeps, brace_keeps, colon_keeps}
use Rattle.snesl_syntax.proofs.OfExpressions.Closed.{bar_keeps, semicolon_keeps, in_keeps, then_keeps, else_keeps, closing_good}

-- a move of a form that may stand bare here
level_good : (deep : ℕ) (ts : List Token) (t : Token) (tightness : ℕ) (frames : List Frame) (found : Option (TokenMove State))
    → (floor frames ≤ tightness → Good deep ts t found) → Good deep ts t (at_level tightness frames found)
level_good deep ts t tightness frames found h = picked (Good deep ts t) (floor frames) tightness found None h (λ above. tt)

prefix_good : {deep : ℕ} {frames : List Frame} {ts : List Token} → Spells deep frames ts → (operator : Prefix) (at : ℕ)
    → Good deep ts (token (prefix_sign operator) at) (at_level prefix_level frames (open_move frames (operand (in_prefix at operator ∷ frames))))
prefix_good {deep = deep} {frames = frames} {ts = ts} h operator at =
    level_good deep ts (token (prefix_sign operator) at) prefix_level frames (open_move frames (operand (in_prefix at operator ∷ frames)))
    (λ low want. stands_operand (spells_prefix {operator = operator} h low want) want)

word_good : {deep : ℕ} {frames : List Frame} {ts : List Token} → Spells deep frames ts → (function : Builtin) (at : ℕ)
    → Good deep ts (token (word function) at) (open_move frames (opening frames at function))
word_good h function at = λ want. stands_opening {function = function} h want

operand_good : {deep : ℕ} {frames : List Frame} {ts : List Token} → Spells deep frames ts → suc (length frames) ≤ deep
    → (kind : TokenKind) (at : ℕ) → Good deep ts (token kind at) (operand_move frames kind at)
operand_good h room (kinds.Integer value) at = λ want. stands_after h (λ here. integer_rule) (omega arith)
operand_good h room kinds.True at = λ want. stands_after h (λ here. truth_rule {value = true}) (omega arith)
operand_good h room kinds.False at = λ want. stands_after h (λ here. truth_rule {value = false}) (omega arith)
operand_good h room (kinds.Name len) at = λ want. stands_after h (λ here. name_rule (record { at = at; len = len })) (omega arith)
operand_good h room kinds.Minus at = prefix_good h Negate at
operand_good h room kinds.Not at = prefix_good h Not at
operand_good h room kinds.Iota at = word_good h builtins.Iota at
operand_good h room kinds.ScanAdd at = word_good h builtins.ScanAdd at
operand_good h room kinds.ReduceAdd at = word_good h builtins.ReduceAdd at
operand_good h room kinds.ReduceMax at = word_good h builtins.ReduceMax at
operand_good h room kinds.ReduceAnd at = word_good h builtins.ReduceAnd at
operand_good h room kinds.ReduceOr at = word_good h builtins.ReduceOr at
operand_good h room kinds.Length at = word_good h builtins.Length at
operand_good h room kinds.Concat at = word_good h builtins.Concat at
operand_good h room kinds.Part at = word_good h builtins.Part at
operand_good h room kinds.The at = word_good h builtins.The at
operand_good h room kinds.Tab at = word_good h builtins.Tab at
operand_good h room kinds.Seq at = word_good h builtins.Seq at
operand_good h room kinds.Fst at = word_good h builtins.Fst at
operand_good h room kinds.Snd at = word_good h builtins.Snd at
operand_good h room kinds.LeftParen at = λ want. stands_operand (spells_group h want) want
operand_good {frames = frames} {ts = ts} h room kinds.LeftBrace at = λ want.
    stands_operand (spells_braces h no_given want (omega arith)) want
operand_good {deep = deep} {frames = frames} {ts = ts} h room kinds.Let at =
    level_good deep ts (token kinds.Let at) 0 frames (open_move frames (let_name frames at)) (λ low want. stands_let_name h low want)
operand_good {deep = deep} {frames = frames} {ts = ts} h room kinds.If at =
    level_good deep ts (token kinds.If at) 0 frames (open_move frames (operand (in_condition at ∷ frames)))
    (λ low want. stands_operand (spells_condition h low want) want)
operand_good h room _ at = tt

-- what an operator does after an operand
joining_good : {deep : ℕ} {frames : List Frame} {ts us : List Token} {last : Tree}
    → Spells deep frames ts → ((here : ℕ) → Whole here us last) → depth last + length frames ≤ deep
    → (operator : Operator) (at : ℕ) → Good deep (ts ++ us) (token (sign operator) at) (joining operator at frames last)
joining_good {deep = deep} {frames = frames} {ts = ts} {us = us} {last = last} h w fits o at =
    let folded : Folded = reduce (left_level o) frames last in
    let next : State = operand (in_binary at o folded.last ∷ folded.frames) in
    let reduced = reduce_stands h (left_level o) (w (floor frames)) (w (left_level o)) fits in
    level_good deep (ts ++ us) (token (sign o) at) (level o) folded.frames
    (Some (record { want = suc (depth folded.last + length folded.frames); next = next }))
    (λ low want. along next
    (sym (append_assoc reduced.front reduced.back (token (sign o) at ∷ [])) ∙ ap (λ x. x ++ (token (sign o) at ∷ [])) reduced.same)
    (stands_operand (spells_binary reduced.spelled low reduced.is want) (omega (arith, want, depth_pos folded.last))))

-- a name is one token
whole_name : {here : ℕ} {ts : List Token} {place : Span} → Whole here ts (name place) → ts ≡ name_token place ∷ []
whole_name (name_rule place) = refl

apply_good : {deep : ℕ} {frames : List Frame} {ts us : List Token} (last : Tree)
    → Spells deep frames ts → Whole 0 us last → (at : ℕ) → Good deep (ts ++ us) (token kinds.LeftParen at) (apply_move frames last)
apply_good {frames = frames} {ts = ts} {us = us} (name place) h w at = λ want.
    let opened : ts ++ (name_token place ∷ token kinds.LeftParen at ∷ []) ≡ (ts ++ (name_token place ∷ [])) ++ (token kinds.LeftParen at ∷ []) =
    simp append_assoc in
    along (operand (in_apply place none ∷ frames)) (opened ∙ ap (λ x. (ts ++ x) ++ (token kinds.LeftParen at ∷ [])) (sym (whole_name w)))
    (stands_operand (spells_apply at h no_given want (omega arith)) want)
apply_good _ h w at = tt

after_good : {deep : ℕ} {frames : List Frame} {ts us : List Token} {last : Tree}
    → Spells deep frames ts → ((here : ℕ) → Whole here us last) → depth last + length frames ≤ deep
    → (kind : TokenKind) (at : ℕ) → Good deep (ts ++ us) (token kind at) (after_move frames last kind at)
after_good h w fits kinds.Or at = joining_good h w fits Or at
after_good h w fits kinds.And at = joining_good h w fits And at
after_good h w fits kinds.Same at = joining_good h w fits Equal at
after_good h w fits kinds.Less at = joining_good h w fits Less at
after_good h w fits kinds.AtMost at = joining_good h w fits AtMost at
after_good h w fits kinds.Greater at = joining_good h w fits Greater at
after_good h w fits kinds.AtLeast at = joining_good h w fits AtLeast at
after_good h w fits kinds.Append at = joining_good h w fits Append at
after_good h w fits kinds.Plus at = joining_good h w fits Add at
after_good h w fits kinds.Minus at = joining_good h w fits Subtract at
after_good h w fits kinds.Star at = joining_good h w fits Multiply at
after_good h w fits kinds.Slash at = joining_good h w fits Divide at
after_good h w fits kinds.Percent at = joining_good h w fits Remainder at
after_good h w fits kinds.At at = joining_good h w fits Index at
after_good {last = last} h w fits kinds.LeftParen at = apply_good last h (w 0) at
after_good h w fits kinds.Comma at = closing_good kinds.Comma comma_move comma_keeps at h w fits
after_good h w fits kinds.RightParen at = closing_good kinds.RightParen paren_move paren_keeps at h w fits
after_good h w fits kinds.RightBrace at = closing_good kinds.RightBrace brace_move brace_keeps at h w fits
after_good h w fits kinds.Colon at = closing_good kinds.Colon colon_move colon_keeps at h w fits
after_good h w fits kinds.Bar at = closing_good kinds.Bar bar_move bar_keeps at h w fits
after_good h w fits kinds.Semicolon at = closing_good kinds.Semicolon semicolon_move semicolon_keeps at h w fits
after_good h w fits kinds.In at = closing_good kinds.In in_move in_keeps at h w fits
after_good h w fits kinds.Then at = closing_good kinds.Then then_move then_keeps at h w fits
after_good h w fits kinds.Else at = closing_good kinds.Else else_move else_keeps at h w fits
after_good h w fits _ at = tt

opening_good : {deep : ℕ} {frames : List Frame} {ts : List Token} → Spells deep frames ts → suc (suc (length frames)) ≤ deep
    → (begun : ℕ) (function : Builtin) (kind : TokenKind) (at : ℕ)
    → Good deep (ts ++ (token (word function) begun ∷ [])) (token kind at) (token_move (opening frames begun function) kind at)
opening_good {frames = frames} h room begun f kinds.LeftParen at = λ want.
    along (operand (in_call begun f none ∷ frames)) (simp append_assoc) (stands_operand (spells_call at {function = f} h no_given room (omega arith)) room)
opening_good h room begun f _ at = tt

let_name_good : {deep : ℕ} {frames : List Frame} {ts : List Token} → Spells deep frames ts → floor frames ≤ 0 → suc (suc (length frames)) ≤ deep
    → (begun : ℕ) (kind : TokenKind) (at : ℕ) → Good deep (ts ++ (token kinds.Let begun ∷ [])) (token kind at) (token_move (let_name frames begun) kind at)
let_name_good {frames = frames} h low room begun (kinds.Name len) at = λ want.
    along (let_equals frames begun (record { at = at; len = len })) (simp append_assoc) (stands_let_equals h low room)
let_name_good h low room begun _ at = tt

let_equals_good : {deep : ℕ} {frames : List Frame} {ts : List Token} → Spells deep frames ts → floor frames ≤ 0 → suc (suc (length frames)) ≤ deep
    → (begun : ℕ) (place : Span) (kind : TokenKind) (at : ℕ)
    → Good deep (ts ++ (token kinds.Let begun ∷ name_token place ∷ [])) (token kind at) (token_move (let_equals frames begun place) kind at)
let_equals_good {frames = frames} h low room begun place kinds.Equals at = λ want.
    along (operand (in_value begun place ∷ frames)) (simp append_assoc) (stands_operand (spells_value at h low room) room)
let_equals_good h low room begun place _ at = tt

binder_name_good : {deep : ℕ} {frames : List Frame} {ts us vs : List Token} {body : Tree} {binders : Binders} (colon : ℕ)
    → Spells deep frames ts → Whole 0 us body → suc (depth body + length frames) ≤ deep
    → Bound vs binders → suc (depth_of_binders binders + length frames) ≤ deep
    → (begun : ℕ) (kind : TokenKind) (at : ℕ)
    → Good deep (ts ++ (token kinds.LeftBrace begun ∷ (us ++ (token kinds.Colon colon ∷ vs)))) (token kind at) (token_move (binder_name frames begun body binders) kind at)
binder_name_good {frames = frames} {body = body} {binders = binders} colon h w room b fit begun (kinds.Name len) at = λ want.
    along (binder_in frames begun body binders (record { at = at; len = len })) (simp append_assoc) (stands_binder_in colon h w room b fit)
binder_name_good colon h w room b fit begun _ at = tt

binder_in_good : {deep : ℕ} {frames : List Frame} {ts us vs : List Token} {body : Tree} {binders : Binders} (colon : ℕ)
    → Spells deep frames ts → Whole 0 us body → suc (depth body + length frames) ≤ deep
    → Bound vs binders → suc (depth_of_binders binders + length frames) ≤ deep
    → (begun : ℕ) (place : Span) (kind : TokenKind) (at : ℕ)
    → Good deep (ts ++ (token kinds.LeftBrace begun ∷ (us ++ (token kinds.Colon colon ∷ (vs ++ (name_token place ∷ [])))))) (token kind at)
    (token_move (binder_in frames begun body binders place) kind at)
binder_in_good {frames = frames} {body = body} {binders = binders} colon h w room b fit begun place kinds.In at = λ want.
    along (operand (in_source begun body binders place ∷ frames)) (simp append_assoc)
    (stands_operand (spells_source colon at h w room b fit) (omega (arith, depth_pos body)))
binder_in_good colon h w room b fit begun place _ at = tt

move_good : {deep : ℕ} {state : State} {ts : List Token} → Stands deep state ts → (kind : TokenKind) (at : ℕ) → Good deep ts (token kind at) (token_move state kind at)
move_good (stands_operand h room) kind at = operand_good h room kind at
move_good (stands_after h w fits) kind at = after_good h w fits kind at
move_good (stands_opening {at = begun} {function = f} h room) kind at = opening_good h room begun f kind at
move_good (stands_let_name {at = begun} h low room) kind at = let_name_good h low room begun kind at
move_good (stands_let_equals {at = begun} {place = place} h low room) kind at = let_equals_good h low room begun place kind at
move_good (stands_binder_name {at = begun} colon h w room b fit) kind at = binder_name_good colon h w room b fit begun kind at
move_good (stands_binder_in {at = begun} {place = place} colon h w room b fit) kind at = binder_in_good colon h w room b fit begun place kind at

-- a step keeps what stands
step_stands : {deep : ℕ} {state next : State} {ts : List Token} → Stands deep state ts → (t : Token) → step expressions deep state t ≡ Ok next
    → Stands deep next (ts ++ (t ∷ []))
step_stands {deep = deep} {state = state} {next = next} {ts = ts} h t e =
    let found = within_ok deep (token_move state t.kind t.at) next e in
    let good : Good deep ts t (Some found.0) = subst (Good deep ts t) found.1 (move_good h t.kind t.at) in
    subst (λ s. Stands deep s (ts ++ (t ∷ []))) found.3 (good found.2)

go_stands : (us : List Token) {deep : ℕ} {state next : State} {ts : List Token} → Stands deep state ts → after_tokens expressions deep state us ≡ Ok next
    → Stands deep next (ts ++ us)
go_stands [] {deep = deep} {state = state} {next = next} {ts = ts} h e =
    let same : state ≡ next = cc in
    subst (λ s. Stands deep s (ts ++ [])) same (along state (sym (append-nil ts)) h)
go_stands (t ∷ us) {deep = deep} {state = state} {next = next} {ts = ts} h e =
    let both = bind_ok (step expressions deep state t) (λ r. after_tokens expressions deep r us) next e in
    along next (append_assoc ts (t ∷ []) us) (go_stands us (step_stands h t both.1) both.2)

-- what was read from the start stands
read : (deep : ℕ) (ts : List Token) (state : State) → 1 ≤ deep → after_tokens expressions deep expressions.start ts ≡ Ok state → Stands deep state ts
read deep ts state least e = go_stands ts {deep = deep} {state = operand []} {next = state} {ts = []} (stands_operand spells_empty least) e

front_at : {here deep : ℕ} {ts : List Token} → here ≤ 0 → Front 0 deep ts → Front here deep ts
front_at {here = here} {deep = deep} {ts = ts} h f = let same : 0 ≡ here = omega arith in subst (λ k. Front k deep ts) same f

-- An expression that is open inside open forms: they begin an expression together.
wrap : {deep : ℕ} {frames : List Frame} {ts : List Token} → Spells deep frames ts → (n : ℕ) {us : List Token}
    → Front (floor frames) n us → n + length frames ≡ deep → Front 0 deep (ts ++ us)
wrap spells_empty n {us = us} f e = subst (λ k. Front 0 k us) (let same : n ≡ _ = omega arith in same) f
wrap {deep = deep} (spells_binary {at = at} {operator = o} h low w room) n f e =
    subst (Front 0 deep) (simp append_assoc) (wrap h (suc n) (binary_right o at low w (omega arith) f) (omega arith))
wrap {deep = deep} (spells_prefix {at = at} {operator = o} h low room) n f e =
    subst (Front 0 deep) (simp append_assoc) (wrap h (suc n) (prefix_operand {at = at} o low f) (omega arith))
wrap {deep = deep} (spells_call {at = at} opened {function = function} h g room fit) n f e =
    subst (Front 0 deep) (simp append_assoc)
    (wrap h (suc n) (call_arguments {at = at} {opened = opened} function (given_front g (omega arith) f)) (omega arith))
wrap {deep = deep} (spells_apply opened {function = function} h g room fit) n f e =
    subst (Front 0 deep) (simp append_assoc) (wrap h (suc n) (apply_arguments {opened = opened} function (given_front g (omega arith) f)) (omega arith))
wrap {deep = deep} (spells_group {at = at} h room) n f e =
    subst (Front 0 deep) (simp append_assoc) (wrap h (suc n) (group_inner {at = at} f) (omega arith))
wrap {deep = deep} (spells_second {at = at} comma h w room) n f e =
    subst (Front 0 deep) (simp append_assoc) (wrap h (suc n) (pair_second {at = at} comma w (omega arith) f) (omega arith))
wrap {deep = deep} (spells_value {at = at} {place = place} equals h low room) n f e =
    subst (Front 0 deep) (simp append_assoc) (wrap h (suc n) (front_at low (let_value {at = at} {equals = equals} place f)) (omega arith))
wrap {deep = deep} (spells_let_body {at = at} {place = place} equals within h low w room) n f e =
    subst (Front 0 deep) (simp append_assoc)
    (wrap h (suc n) (front_at low (let_body {at = at} {equals = equals} place within w (omega arith) f)) (omega arith))
wrap {deep = deep} (spells_condition {at = at} h low room) n f e =
    subst (Front 0 deep) (simp append_assoc) (wrap h (suc n) (front_at low (if_condition {at = at} f)) (omega arith))
wrap {deep = deep} (spells_positive {at = at} next h low w room) n f e =
    subst (Front 0 deep) (simp append_assoc) (wrap h (suc n) (front_at low (if_positive {at = at} next w (omega arith) f)) (omega arith))
wrap {deep = deep} (spells_negative {at = at} next last h low wc room wp rooms) n f e =
    subst (Front 0 deep) (simp append_assoc)
    (wrap h (suc n) (front_at low (if_negative {at = at} next last wc (omega arith) wp (omega arith) f)) (omega arith))
wrap {deep = deep} (spells_braces {at = at} h g room fit) n f e =
    subst (Front 0 deep) (simp append_assoc) (wrap h (suc n) (brace_items {at = at} (given_front g (omega arith) f)) (omega arith))
wrap {deep = deep} (spells_filter {at = at} bar h w room) n f e =
    subst (Front 0 deep) (simp append_assoc) (wrap h (suc n) (filter_condition {at = at} bar w (omega arith) f) (omega arith))
wrap {deep = deep} (spells_source {at = at} {place = place} colon within h w room b fit) n f e =
    subst (Front 0 deep) (simp append_assoc)
    (wrap h (suc n) (each_binders {at = at} colon w (omega arith) (bound_front b (omega arith) (binder_source place within f))) (omega arith))
wrap {deep = deep} (spells_each_condition {at = at} colon bar h w room b fit) n f e =
    subst (Front 0 deep) (simp append_assoc)
    (wrap h (suc n) (each_condition {at = at} colon bar w (omega arith) b (omega arith) f) (omega arith))

-- what stands begins an expression
stands_front : {deep : ℕ} {state : State} {ts : List Token} → Stands deep state ts → Front 0 deep ts
stands_front {deep = deep} {ts = ts} (stands_operand {frames = s} h room) =
    subst (Front 0 deep) (append-nil ts) (wrap h (suc (deep - suc (length s))) nothing (omega arith))
stands_front {deep = deep} (stands_after {frames = s} h w fits) = wrap h (deep - length s) (whole (w (floor s)) (omega arith)) (omega arith)
stands_front {deep = deep} (stands_opening {function = f} {frames = s} h room) =
    wrap h (suc (suc (deep - suc (suc (length s))))) (call_word f) (omega arith)
stands_front {deep = deep} (stands_let_name {frames = s} h low room) =
    wrap h (suc (suc (deep - suc (suc (length s))))) (front_at low let_word) (omega arith)
stands_front {deep = deep} (stands_let_equals {place = place} {frames = s} h low room) =
    wrap h (suc (suc (deep - suc (suc (length s))))) (front_at low (let_name_front place)) (omega arith)
stands_front {deep = deep} {ts = all} (stands_binder_name {at = at} colon {frames = s} {ts = ts} {us = us} {vs = vs} {body = body} h w room b fit) =
    let pos : 1 ≤ depth body = depth_pos body in
    subst (Front 0 deep) (simp append-nil)
    (wrap h (suc (suc (deep - suc (suc (length s))))) (each_binders {at = at} colon w (omega arith) (bound_front b (omega arith) no_binder)) (omega arith))
stands_front {deep = deep} (stands_binder_in {at = at} {place = place} colon {frames = s} {body = body} h w room b fit) =
    let pos : 1 ≤ depth body = depth_pos body in
    wrap h (suc (suc (deep - suc (suc (length s))))) (each_binders {at = at} colon w (omega arith) (bound_front b (omega arith) (binder_name_front place))) (omega arith)

-- Tokens that are read begin an expression within the depth.
pub read_stands : (deep : ℕ) (ts : List Token) (state : State) → 1 ≤ deep → after_tokens expressions deep expressions.start ts ≡ Ok state → Front 0 deep ts
read_stands deep ts state least e = stands_front (read deep ts state least e)

no_tokens : {deep : ℕ} {ts : List Token} → Spells deep [] ts → ts ≡ []
no_tokens spells_empty = refl

-- in a frame an expression is not finished
not_alone : (frame : Frame) (frames : List Frame) (last : Tree) → alone (record { frames = frame ∷ frames; last = last }) ≡ None
not_alone frame frames last = ap (λ b. cond b (Some last) None) (lt-leb (suc (length frames)) 0 (omega arith))

-- an expression in no frame is all that was read
alone_whole : {deep : ℕ} {all : List Token} {tree : Tree} (frames : List Frame) (last : Tree)
    → Reduced deep 0 all (record { frames = frames; last = last }) → alone (record { frames = frames; last = last }) ≡ Some tree
    → Whole 0 all tree × (depth tree ≤ deep)
alone_whole {deep = deep} {all = all} {tree = tree} [] last reduced e =
    let same : last ≡ tree = cc e in
    let tokens : reduced.back ≡ all = ap (λ x. x ++ reduced.back) (sym (no_tokens reduced.spelled)) ∙ reduced.same in
    subst (λ x. Whole 0 all x × (depth x ≤ deep)) same
    (subst (λ x. Whole 0 x last) tokens reduced.is, (let fits : depth last + 0 ≤ deep = reduced.fits in omega arith))
alone_whole (frame ∷ frames) last reduced e = absurd (let never : ⊥ = cc (e, not_alone frame frames last) in never)

finished_whole : {deep : ℕ} {state : State} {ts : List Token} {tree : Tree} → Stands deep state ts → finished_of state ≡ Some tree
    → Whole 0 ts tree × (depth tree ≤ deep)
finished_whole (stands_after {frames = frames} {last = last} h w fits) e =
    let folded : Folded = reduce 0 frames last in
    alone_whole folded.frames folded.last (reduce_stands h 0 (w (floor frames)) (w 0) fits) e
finished_whole _ e = absurd (let never : ⊥ = cc e in never)

-- Where the reader has an expression, the tokens are that expression.
pub read_whole : (deep : ℕ) (ts : List Token) (state : State) (tree : Tree) → 1 ≤ deep → after_tokens expressions deep expressions.start ts ≡ Ok state
    → expressions.finished state ≡ Some tree → Whole 0 ts tree × (depth tree ≤ deep)
read_whole deep ts state tree least e f = finished_whole (read deep ts state least e) f

alone_ends : {tree : Tree} (frames : List Frame) (last : Tree) → alone (record { frames = frames; last = last }) ≡ Some tree
    → semicolon_move frames last ≡ None
alone_ends [] last e = refl
alone_ends (frame ∷ frames) last e = absurd (let never : ⊥ = cc (e, not_alone frame frames last) in never)

-- An expression is not continued by a semicolon.
pub whole_ends : (state : State) (tree : Tree) (token : Token) → expressions.finished state ≡ Some tree → token.kind ≡ kinds.Semicolon
    → expressions.move state token ≡ None
whole_ends state tree token e semicolon = ap (λ kind. token_move state kind token.at) semicolon ∙ ends_by state e
  where
    ends_by : (s : State) → finished_of s ≡ Some tree → token_move s kinds.Semicolon token.at ≡ None
    ends_by (after frames last) e = let folded : Folded = reduce 0 frames last in alone_ends folded.frames folded.last e
    ends_by _ e = absurd (let never : ⊥ = cc e in never)
