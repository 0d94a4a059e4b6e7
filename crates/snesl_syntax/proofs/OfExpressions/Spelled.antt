-- The tokens that lead to a state: those of its open forms, and those after them.
use Rattle.std.proofs.Common.{◌≡◌, ℕ, suc, ◌+◌, ◌≤◌, ◌<◌, List, [], ◌∷◌, ◌++◌, length, refl, sym, subst, arith, append_assoc}
use Rattle.snesl_grammar.specs.declared.lexer.token.TokenKind.TheVariants.{In, Let, If, Then, Else, LeftParen, LeftBrace, Colon, Semicolon, Comma, Bar, Equals}
use Rattle.snesl_grammar.specs.declared.lexer.token.Token.{Token}
use Rattle.snesl_grammar.specs.declared.tree.operator.Operator.{Operator}
use Rattle.snesl_grammar.specs.declared.tree.operator.Prefix.{Prefix}
use Rattle.snesl_grammar.specs.declared.tree.operator.Builtin.{Builtin}
use Rattle.snesl_grammar.specs.declared.tree.span.Span.{Span}
use Rattle.snesl_grammar.specs.tree.Tree.{Tree, Trees, Binders, none, none_bound, depth, depth_of_all, depth_of_binders}
use Rattle.snesl_grammar.specs.Operators.{level, left_level, prefix_level, sign, prefix_sign, word}
use Rattle.snesl_grammar.specs.Expressions.{token, name_token, added, bound_also, binder_count, greatest_binder_count, Whole, WholeArguments}
use Rattle.snesl_grammar.specs.Expressions.{one_rule, more_rule, WholeBinders, one_binder, more_binders, Front, FrontArguments, first_front}
use Rattle.snesl_grammar.specs.Expressions.{next_front, FrontBinder, FrontBinders, first_binder, next_binder}
use Rattle.snesl_syntax.specs.expressions.Machine.{Frame, in_binary, in_prefix, in_call, in_apply, in_group, in_second, in_value, in_let_body, in_condition}
use Rattle.snesl_syntax.specs.expressions.Machine.{in_positive, in_negative, in_braces, in_filter, in_source, in_each_condition, State, operand, after}
use Rattle.snesl_syntax.specs.expressions.Machine.{opening, let_name, let_equals, binder_name, binder_in, floor}
use Rattle.snesl_syntax.proofs.OfExpressions.Depths.{arguments_pos}

-- the tokens of arguments that are given, with the comma after them
pub data Given : List Token → Trees → Type 0 where
  -- none is given yet
  no_given : Given [] none
  some_given : (comma : ℕ) {ts : List Token} {given : Trees} → WholeArguments ts given → Given (ts ++ (token Comma comma ∷ [])) given

-- the tokens of binders that are whole, with the semicolon after them
pub data Bound : List Token → Binders → Type 0 where
  -- none is whole yet
  no_bound : Bound [] none_bound
  some_bound : (semicolon : ℕ) {ts : List Token} {binders : Binders}
      → WholeBinders ts binders → binder_count binders < greatest_binder_count → Bound (ts ++ (token Semicolon semicolon ∷ [])) binders

-- the tokens of the open forms, each of which has room within the depth
pub data Spells (deep : ℕ) : List Frame → List Token → Type 0 where
  spells_empty : Spells deep [] []
  spells_binary : {at : ℕ} {operator : Operator} {frames : List Frame} {ts us : List Token} {left : Tree}
      → Spells deep frames ts → floor frames ≤ level operator → Whole (left_level operator) us left → suc (depth left + length frames) ≤ deep
      → Spells deep (in_binary at operator left ∷ frames) (ts ++ (us ++ (token (sign operator) at ∷ [])))
  spells_prefix : {at : ℕ} {operator : Prefix} {frames : List Frame} {ts : List Token}
      → Spells deep frames ts → floor frames ≤ prefix_level → suc (suc (length frames)) ≤ deep
      → Spells deep (in_prefix at operator ∷ frames) (ts ++ (token (prefix_sign operator) at ∷ []))
  spells_call : {at : ℕ} (opened : ℕ) {function : Builtin} {frames : List Frame} {ts us : List Token} {given : Trees}
      → Spells deep frames ts → Given us given → suc (suc (length frames)) ≤ deep → suc (depth_of_all given + length frames) ≤ deep
      → Spells deep (in_call at function given ∷ frames) (ts ++ (token (word function) at ∷ token LeftParen opened ∷ us))
  spells_apply : (opened : ℕ) {function : Span} {frames : List Frame} {ts us : List Token} {given : Trees}
      → Spells deep frames ts → Given us given → suc (suc (length frames)) ≤ deep → suc (depth_of_all given + length frames) ≤ deep
      → Spells deep (in_apply function given ∷ frames) (ts ++ (name_token function ∷ token LeftParen opened ∷ us))
  spells_group : {at : ℕ} {frames : List Frame} {ts : List Token}
      → Spells deep frames ts → suc (suc (length frames)) ≤ deep → Spells deep (in_group at ∷ frames) (ts ++ (token LeftParen at ∷ []))
  spells_second : {at : ℕ} (comma : ℕ) {frames : List Frame} {ts us : List Token} {first : Tree}
      → Spells deep frames ts → Whole 0 us first → suc (depth first + length frames) ≤ deep
      → Spells deep (in_second at first ∷ frames) (ts ++ (token LeftParen at ∷ (us ++ (token Comma comma ∷ []))))
  spells_value : {at : ℕ} {place : Span} (equals : ℕ) {frames : List Frame} {ts : List Token}
      → Spells deep frames ts → floor frames ≤ 0 → suc (suc (length frames)) ≤ deep
      → Spells deep (in_value at place ∷ frames) (ts ++ (token Let at ∷ name_token place ∷ token Equals equals ∷ []))
  spells_let_body : {at : ℕ} {place : Span} (equals within : ℕ) {frames : List Frame} {ts us : List Token} {value : Tree}
      → Spells deep frames ts → floor frames ≤ 0 → Whole 0 us value → suc (depth value + length frames) ≤ deep
      → Spells deep (in_let_body at place value ∷ frames)
      (ts ++ (token Let at ∷ name_token place ∷ token Equals equals ∷ (us ++ (token In within ∷ []))))
  spells_condition : {at : ℕ} {frames : List Frame} {ts : List Token}
      → Spells deep frames ts → floor frames ≤ 0 → suc (suc (length frames)) ≤ deep
      → Spells deep (in_condition at ∷ frames) (ts ++ (token If at ∷ []))
  spells_positive : {at : ℕ} (next : ℕ) {frames : List Frame} {ts us : List Token} {condition : Tree}
      → Spells deep frames ts → floor frames ≤ 0 → Whole 0 us condition → suc (depth condition + length frames) ≤ deep
      → Spells deep (in_positive at condition ∷ frames) (ts ++ (token If at ∷ (us ++ (token Then next ∷ []))))
  spells_negative : {at : ℕ} (next last : ℕ) {frames : List Frame} {ts us vs : List Token} {condition positive : Tree}
      → Spells deep frames ts → floor frames ≤ 0 → Whole 0 us condition → suc (depth condition + length frames) ≤ deep
      → Whole 0 vs positive → suc (depth positive + length frames) ≤ deep
      → Spells deep (in_negative at condition positive ∷ frames)
      (ts ++ (token If at ∷ (us ++ (token Then next ∷ (vs ++ (token Else last ∷ []))))))
  spells_braces : {at : ℕ} {frames : List Frame} {ts us : List Token} {given : Trees}
      → Spells deep frames ts → Given us given → suc (suc (length frames)) ≤ deep → suc (depth_of_all given + length frames) ≤ deep
      → Spells deep (in_braces at given ∷ frames) (ts ++ (token LeftBrace at ∷ us))
  spells_filter : {at : ℕ} (bar : ℕ) {frames : List Frame} {ts us : List Token} {item : Tree}
      → Spells deep frames ts → Whole 0 us item → suc (depth item + length frames) ≤ deep
      → Spells deep (in_filter at item ∷ frames) (ts ++ (token LeftBrace at ∷ (us ++ (token Bar bar ∷ []))))
  spells_source : {at : ℕ} {place : Span} (colon within : ℕ) {frames : List Frame} {ts us vs : List Token} {body : Tree} {binders : Binders}
      → Spells deep frames ts → Whole 0 us body → suc (depth body + length frames) ≤ deep
      → Bound vs binders → suc (depth_of_binders binders + length frames) ≤ deep
      → Spells deep (in_source at body binders place ∷ frames)
      (ts ++ (token LeftBrace at ∷ (us ++ (token Colon colon ∷ (vs ++ (name_token place ∷ token In within ∷ []))))))
  spells_each_condition : {at : ℕ} (colon bar : ℕ) {frames : List Frame} {ts us vs : List Token} {body : Tree} {binders : Binders}
      → Spells deep frames ts → Whole 0 us body → suc (depth body + length frames) ≤ deep
      → WholeBinders vs binders → suc (depth_of_binders binders + length frames) ≤ deep
      → Spells deep (in_each_condition at body binders ∷ frames)
      (ts ++ (token LeftBrace at ∷ (us ++ (token Colon colon ∷ (vs ++ (token Bar bar ∷ []))))))

-- the tokens that lead to a state within the depth
pub data Stands (deep : ℕ) : State → List Token → Type 0 where
  stands_operand : {frames : List Frame} {ts : List Token} → Spells deep frames ts → suc (length frames) ≤ deep → Stands deep (operand frames) ts
  stands_after : {frames : List Frame} {ts us : List Token} {last : Tree}
      → Spells deep frames ts → ((here : ℕ) → Whole here us last) → depth last + length frames ≤ deep → Stands deep (after frames last) (ts ++ us)
  stands_opening : {at : ℕ} {function : Builtin} {frames : List Frame} {ts : List Token}
      → Spells deep frames ts → suc (suc (length frames)) ≤ deep
      → Stands deep (opening frames at function) (ts ++ (token (word function) at ∷ []))
  stands_let_name : {at : ℕ} {frames : List Frame} {ts : List Token}
      → Spells deep frames ts → floor frames ≤ 0 → suc (suc (length frames)) ≤ deep
      → Stands deep (let_name frames at) (ts ++ (token Let at ∷ []))
  stands_let_equals : {at : ℕ} {place : Span} {frames : List Frame} {ts : List Token}
      → Spells deep frames ts → floor frames ≤ 0 → suc (suc (length frames)) ≤ deep
      → Stands deep (let_equals frames at place) (ts ++ (token Let at ∷ name_token place ∷ []))
  stands_binder_name : {at : ℕ} (colon : ℕ) {frames : List Frame} {ts us vs : List Token} {body : Tree} {binders : Binders}
      → Spells deep frames ts → Whole 0 us body → suc (depth body + length frames) ≤ deep
      → Bound vs binders → suc (depth_of_binders binders + length frames) ≤ deep
      → Stands deep (binder_name frames at body binders) (ts ++ (token LeftBrace at ∷ (us ++ (token Colon colon ∷ vs))))
  stands_binder_in : {at : ℕ} {place : Span} (colon : ℕ) {frames : List Frame} {ts us vs : List Token} {body : Tree} {binders : Binders}
      → Spells deep frames ts → Whole 0 us body → suc (depth body + length frames) ≤ deep
      → Bound vs binders → suc (depth_of_binders binders + length frames) ≤ deep
      → Stands deep (binder_in frames at body binders place)
      (ts ++ (token LeftBrace at ∷ (us ++ (token Colon colon ∷ (vs ++ (name_token place ∷ []))))))

-- the arguments that are given, and one more
pub given_whole : {us vs : List Token} {given : Trees} {last : Tree} → Given us given → Whole 0 vs last → WholeArguments (us ++ vs) (added given last)
given_whole no_given w = one_rule w
given_whole {vs = vs} {given = given} {last = last} (some_given comma {ts = ts} wa) w =
    subst (λ x. WholeArguments x (added given last)) (sym (append_assoc ts (token Comma comma ∷ []) vs)) (more_rule comma wa w)

pub given_front : {deep : ℕ} {us vs : List Token} {given : Trees} → Given us given → depth_of_all given ≤ deep → Front 0 deep vs
    → FrontArguments deep (us ++ vs)
given_front no_given fit f = first_front f
given_front {deep = deep} {vs = vs} (some_given comma {ts = ts} wa) fit f =
    subst (FrontArguments deep) (sym (append_assoc ts (token Comma comma ∷ []) vs)) (next_front comma wa fit f)

-- where no argument is given, no token is
pub given_nothing : {us : List Token} {given : Trees} → Given us given → given ≡ none → us ≡ []
given_nothing no_given e = refl
given_nothing (some_given comma {given = given} wa) e =
    absurd (let h : 1 ≤ depth_of_all none = subst (λ x. 1 ≤ depth_of_all x) e (arguments_pos wa) in omega arith)

-- the binders that are whole, and one more
pub bound_whole : {us vs : List Token} {binders : Binders} {source : Tree} → Bound us binders → (place : Span) (within : ℕ) → Whole 0 vs source
    → WholeBinders (us ++ (name_token place ∷ token In within ∷ vs)) (bound_also binders place source)
bound_whole no_bound place within w = one_binder place within w
bound_whole {vs = vs} {binders = binders} {source = source} (some_bound semicolon {ts = ts} wb few) place within w =
    subst (λ x. WholeBinders x (bound_also binders place source))
    (sym (append_assoc ts (token Semicolon semicolon ∷ []) (name_token place ∷ token In within ∷ vs)))
    (more_binders semicolon place within wb few w)

pub bound_front : {deep : ℕ} {us vs : List Token} {binders : Binders} → Bound us binders → depth_of_binders binders ≤ deep → FrontBinder deep vs
    → FrontBinders deep (us ++ vs)
bound_front no_bound fit f = first_binder f
bound_front {deep = deep} {vs = vs} (some_bound semicolon {ts = ts} wb few) fit f =
    subst (FrontBinders deep) (sym (append_assoc ts (token Semicolon semicolon ∷ []) vs)) (next_binder semicolon wb fit few f)
