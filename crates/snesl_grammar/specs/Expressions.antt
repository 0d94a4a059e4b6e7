-- Which tokens are an expression, and which begin one.
-- A place asks for a level, which says how tightly an expression has to bind to stand there bare: 0 where any
-- expression may stand, 9 where only a name, a literal, a call or an expression in brackets may.
use Rattle.std.specs.Prelude.{ℕ, suc, ◌≤◌, ◌<◌, ℤ, Bool, List, [], ◌∷◌, ◌++◌}
use Rattle.snesl_grammar.specs.declared.lexer.token.TokenKind.{TokenKind}
use Rattle.snesl_grammar.specs.declared.lexer.token.TokenKind.TheVariants.{Integer, Name, Let, In, If, Then, Else, LeftParen, RightParen, LeftBrace, RightBrace, Colon, Semicolon, Comma, Bar, Equals}
use Rattle.snesl_grammar.specs.declared.lexer.token.Token.{Token}
use Rattle.snesl_grammar.specs.declared.tree.operator.Operator.{Operator}
use Rattle.snesl_grammar.specs.declared.tree.operator.Prefix.{Prefix}
use Rattle.snesl_grammar.specs.declared.tree.operator.Builtin.{Builtin}
use Rattle.snesl_grammar.specs.declared.tree.span.Span.{Span}
use Rattle.snesl_grammar.specs.tree.Tree.{Tree, Trees, Binders, integer, truth, name, binary, prefix, call, apply, group, pair, binding, choice, literal}
use Rattle.snesl_grammar.specs.tree.Tree.{filter, each, none, both, none_bound, binder, always, only_where, depth, depth_of_all, depth_of_binders}
use Rattle.snesl_grammar.specs.Operators.{level, left_level, prefix_level, sign, prefix_sign, truth_word, word}

-- the token of a kind at an offset
abbrev pub token : TokenKind → ℕ → Token
token kind at = record { kind = kind; at = at }

-- the token of the name at a place
abbrev pub name_token : Span → Token
name_token place = token (Name place.len) place.at

-- the arguments, and one more at the end
abbrev pub added : Trees → Tree → Trees
added none last = both last none
added (both first others) last = both first (added others last)

-- the binders, and one more at the end
abbrev pub bound_also : Binders → Span → Tree → Binders
bound_also none_bound place source = binder place source none_bound
bound_also (binder first its_source others) place source = binder first its_source (bound_also others place source)

abbrev pub binder_count : Binders → ℕ
binder_count none_bound = 0
binder_count (binder place source others) = suc (binder_count others)

-- the most binders of one comprehension
abbrev pub greatest_binder_count : ℕ
greatest_binder_count = 8

mutual
  -- the tokens are this expression, at a place that asks for this level
  pub data Whole : ℕ → List Token → Tree → Type 0 where
    -- an integer is an expression
    integer_rule : {here at : ℕ} {value : ℤ} → Whole here (token (Integer value) at ∷ []) (integer at value)
    -- `true` and `false` are expressions
    truth_rule : {here at : ℕ} {value : Bool} → Whole here (token (truth_word value) at ∷ []) (truth at value)
    -- a name is an expression
    name_rule : {here : ℕ} (place : Span) → Whole here (name_token place ∷ []) (name place)
    -- an operator that binds as tightly as the place asks joins two expressions
    -- operators that bind as tightly may stand bare in the left one, unless they compare, and not in the right one
    binary_rule : {here at : ℕ} {operator : Operator} {ts us : List Token} {left right : Tree}
        → here ≤ level operator → Whole (left_level operator) ts left → Whole (suc (level operator)) us right
        → Whole here (ts ++ (token (sign operator) at ∷ us)) (binary at operator left right)
    -- an operator stands before its operand
    prefix_rule : {here at : ℕ} {operator : Prefix} {ts : List Token} {operand : Tree}
        → here ≤ prefix_level → Whole prefix_level ts operand
        → Whole here (token (prefix_sign operator) at ∷ ts) (prefix at operator operand)
    -- a built-in function has its arguments in parentheses
    call_rule : {here at opened : ℕ} (closed : ℕ) {function : Builtin} {ts : List Token} {arguments : Trees}
        → WholeArguments ts arguments
        → Whole here (token (word function) at ∷ token LeftParen opened ∷ (ts ++ (token RightParen closed ∷ []))) (call at function arguments)
    -- so has a declared function
    apply_rule : {here opened : ℕ} (function : Span) (closed : ℕ) {ts : List Token} {arguments : Trees}
        → WholeArguments ts arguments
        → Whole here (name_token function ∷ token LeftParen opened ∷ (ts ++ (token RightParen closed ∷ []))) (apply function arguments)
    -- an expression stands in parentheses
    group_rule : {here at : ℕ} (closed : ℕ) {ts : List Token} {inner : Tree}
        → Whole 0 ts inner
        → Whole here (token LeftParen at ∷ (ts ++ (token RightParen closed ∷ []))) (group at inner)
    -- two expressions in parentheses are a pair
    pair_rule : {here at : ℕ} (comma closed : ℕ) {ts us : List Token} {first second : Tree}
        → Whole 0 ts first → Whole 0 us second
        → Whole here (token LeftParen at ∷ (ts ++ (token Comma comma ∷ (us ++ (token RightParen closed ∷ []))))) (pair at first second)
    -- `let name = value in body`
    let_rule : {at : ℕ} (place : Span) {equals : ℕ} (within : ℕ) {ts us : List Token} {value body : Tree}
        → Whole 0 ts value → Whole 0 us body
        → Whole 0 (token Let at ∷ name_token place ∷ token Equals equals ∷ (ts ++ (token In within ∷ us))) (binding at place value body)
    -- `if condition then positive else negative`
    if_rule : {at : ℕ} (next last : ℕ) {ts us vs : List Token} {condition positive negative : Tree}
        → Whole 0 ts condition → Whole 0 us positive → Whole 0 vs negative
        → Whole 0 (token If at ∷ (ts ++ (token Then next ∷ (us ++ (token Else last ∷ vs))))) (choice at condition positive negative)
    -- items in braces
    literal_rule : {here at : ℕ} (closed : ℕ) {ts : List Token} {items : Trees}
        → WholeArguments ts items
        → Whole here (token LeftBrace at ∷ (ts ++ (token RightBrace closed ∷ []))) (literal at items)
    -- `{item | condition}`
    filter_rule : {here at : ℕ} (bar closed : ℕ) {ts us : List Token} {item condition : Tree}
        → Whole 0 ts item → Whole 0 us condition
        → Whole here (token LeftBrace at ∷ (ts ++ (token Bar bar ∷ (us ++ (token RightBrace closed ∷ []))))) (filter at item condition)
    -- a comprehension has a body and, after a colon, binders
    each_rule : {here at : ℕ} (colon closed : ℕ) {ts us : List Token} {body : Tree} {binders : Binders}
        → Whole 0 ts body → WholeBinders us binders
        → Whole here (token LeftBrace at ∷ (ts ++ (token Colon colon ∷ (us ++ (token RightBrace closed ∷ []))))) (each at body binders always)
    -- and after a bar it may have a condition
    each_where_rule : {here at : ℕ} (colon bar closed : ℕ) {ts us vs : List Token} {body condition : Tree} {binders : Binders}
        → Whole 0 ts body → WholeBinders us binders → Whole 0 vs condition
        → Whole here (token LeftBrace at ∷ (ts ++ (token Colon colon ∷ (us ++ (token Bar bar ∷ (vs ++ (token RightBrace closed ∷ [])))))))
        (each at body binders (only_where condition))

  -- the tokens are these arguments, parted by commas
  pub data WholeArguments : List Token → Trees → Type 0 where
    -- one argument
    one_rule : {ts : List Token} {only : Tree} → Whole 0 ts only → WholeArguments ts (both only none)
    -- arguments, and after a comma one more
    more_rule : (comma : ℕ) {ts us : List Token} {arguments : Trees} {last : Tree}
        → WholeArguments ts arguments → Whole 0 us last
        → WholeArguments (ts ++ (token Comma comma ∷ us)) (added arguments last)

  -- the tokens are these binders, parted by semicolons: at most eight
  pub data WholeBinders : List Token → Binders → Type 0 where
    -- one binder: a name in a source
    one_binder : (place : Span) (within : ℕ) {ts : List Token} {source : Tree}
        → Whole 0 ts source → WholeBinders (name_token place ∷ token In within ∷ ts) (binder place source none_bound)
    -- fewer than eight binders, and after a semicolon one more
    more_binders : (semicolon : ℕ) (place : Span) (within : ℕ) {ts us : List Token} {binders : Binders} {source : Tree}
        → WholeBinders ts binders → binder_count binders < greatest_binder_count → Whole 0 us source
        → WholeBinders (ts ++ (token Semicolon semicolon ∷ name_token place ∷ token In within ∷ us)) (bound_also binders place source)

mutual
  -- an expression of at most this depth, at a place that asks for this level, begins with the tokens
  pub data Front : ℕ → ℕ → List Token → Type 0 where
    -- no tokens yet
    nothing : {here deep : ℕ} → Front here (suc deep) []
    -- a whole expression begins itself
    whole : {here deep : ℕ} {ts : List Token} {tree : Tree} → Whole here ts tree → depth tree ≤ deep → Front here deep ts
    -- the tokens end in the left operand
    binary_left : {here deep : ℕ} (operator : Operator) {ts : List Token}
        → here ≤ level operator → Front (left_level operator) deep ts → Front here (suc deep) ts
    -- the tokens end in the right operand
    binary_right : {here deep : ℕ} (operator : Operator) (at : ℕ) {ts us : List Token} {left : Tree}
        → here ≤ level operator → Whole (left_level operator) ts left → depth left ≤ deep → Front (suc (level operator)) deep us
        → Front here (suc deep) (ts ++ (token (sign operator) at ∷ us))
    -- the tokens end in the operand after its operator
    prefix_operand : {here deep at : ℕ} (operator : Prefix) {ts : List Token}
        → here ≤ prefix_level → Front prefix_level deep ts → Front here (suc deep) (token (prefix_sign operator) at ∷ ts)
    -- the tokens end after a built-in function's name
    call_word : {here deep at : ℕ} (function : Builtin) → Front here (suc (suc deep)) (token (word function) at ∷ [])
    -- the tokens end in a function's arguments
    call_arguments : {here deep at opened : ℕ} (function : Builtin) {ts : List Token}
        → FrontArguments deep ts → Front here (suc deep) (token (word function) at ∷ token LeftParen opened ∷ ts)
    apply_arguments : {here deep opened : ℕ} (function : Span) {ts : List Token}
        → FrontArguments deep ts → Front here (suc deep) (name_token function ∷ token LeftParen opened ∷ ts)
    -- the tokens end in the first expression in parentheses
    group_inner : {here deep at : ℕ} {ts : List Token}
        → Front 0 deep ts → Front here (suc deep) (token LeftParen at ∷ ts)
    -- the tokens end in the second part of a pair
    pair_second : {here deep at : ℕ} (comma : ℕ) {ts us : List Token} {first : Tree}
        → Whole 0 ts first → depth first ≤ deep → Front 0 deep us → Front here (suc deep) (token LeftParen at ∷ (ts ++ (token Comma comma ∷ us)))
    -- the tokens end after `let`, after the name, in the value, in the body
    let_word : {deep at : ℕ} → Front 0 (suc (suc deep)) (token Let at ∷ [])
    let_name : {deep at : ℕ} (place : Span) → Front 0 (suc (suc deep)) (token Let at ∷ name_token place ∷ [])
    let_value : {deep at equals : ℕ} (place : Span) {ts : List Token}
        → Front 0 deep ts → Front 0 (suc deep) (token Let at ∷ name_token place ∷ token Equals equals ∷ ts)
    let_body : {deep at equals : ℕ} (place : Span) (within : ℕ) {ts us : List Token} {value : Tree}
        → Whole 0 ts value → depth value ≤ deep → Front 0 deep us
        → Front 0 (suc deep) (token Let at ∷ name_token place ∷ token Equals equals ∷ (ts ++ (token In within ∷ us)))
    -- the tokens end in the condition of an `if`, in its first branch, in its second
    if_condition : {deep at : ℕ} {ts : List Token} → Front 0 deep ts → Front 0 (suc deep) (token If at ∷ ts)
    if_positive : {deep at : ℕ} (next : ℕ) {ts us : List Token} {condition : Tree}
        → Whole 0 ts condition → depth condition ≤ deep → Front 0 deep us
        → Front 0 (suc deep) (token If at ∷ (ts ++ (token Then next ∷ us)))
    if_negative : {deep at : ℕ} (next last : ℕ) {ts us vs : List Token} {condition positive : Tree}
        → Whole 0 ts condition → depth condition ≤ deep → Whole 0 us positive → depth positive ≤ deep → Front 0 deep vs
        → Front 0 (suc deep) (token If at ∷ (ts ++ (token Then next ∷ (us ++ (token Else last ∷ vs)))))
    -- the tokens end in the items in braces, the first of which may be the body of a comprehension
    brace_items : {here deep at : ℕ} {ts : List Token}
        → FrontArguments deep ts → Front here (suc deep) (token LeftBrace at ∷ ts)
    -- the tokens end in the condition after an item
    filter_condition : {here deep at : ℕ} (bar : ℕ) {ts us : List Token} {item : Tree}
        → Whole 0 ts item → depth item ≤ deep → Front 0 deep us
        → Front here (suc deep) (token LeftBrace at ∷ (ts ++ (token Bar bar ∷ us)))
    -- the tokens end in the binders of a comprehension
    each_binders : {here deep at : ℕ} (colon : ℕ) {ts us : List Token} {body : Tree}
        → Whole 0 ts body → depth body ≤ deep → FrontBinders deep us
        → Front here (suc deep) (token LeftBrace at ∷ (ts ++ (token Colon colon ∷ us)))
    -- the tokens end in its condition
    each_condition : {here deep at : ℕ} (colon bar : ℕ) {ts us vs : List Token} {body : Tree} {binders : Binders}
        → Whole 0 ts body → depth body ≤ deep → WholeBinders us binders → depth_of_binders binders ≤ deep → Front 0 deep vs
        → Front here (suc deep) (token LeftBrace at ∷ (ts ++ (token Colon colon ∷ (us ++ (token Bar bar ∷ vs)))))

  -- arguments of at most this depth begin with the tokens
  pub data FrontArguments : ℕ → List Token → Type 0 where
    -- the tokens end in the first argument
    first_front : {deep : ℕ} {ts : List Token} → Front 0 deep ts → FrontArguments deep ts
    -- the tokens end in a later argument
    next_front : {deep : ℕ} (comma : ℕ) {ts us : List Token} {arguments : Trees}
        → WholeArguments ts arguments → depth_of_all arguments ≤ deep → Front 0 deep us
        → FrontArguments deep (ts ++ (token Comma comma ∷ us))

  -- binders whose sources have at most this depth begin with the tokens
  pub data FrontBinders : ℕ → List Token → Type 0 where
    -- the tokens end in the first binder
    first_binder : {deep : ℕ} {ts : List Token} → FrontBinder deep ts → FrontBinders deep ts
    -- the tokens end in a later binder
    next_binder : {deep : ℕ} (semicolon : ℕ) {ts us : List Token} {binders : Binders}
        → WholeBinders ts binders → depth_of_binders binders ≤ deep → binder_count binders < greatest_binder_count → FrontBinder deep us
        → FrontBinders deep (ts ++ (token Semicolon semicolon ∷ us))

  -- a binder whose source has at most this depth begins with the tokens
  pub data FrontBinder : ℕ → List Token → Type 0 where
    -- no tokens yet, or the tokens end after the name
    no_binder : {deep : ℕ} → FrontBinder (suc deep) []
    binder_name : {deep : ℕ} (place : Span) → FrontBinder (suc deep) (name_token place ∷ [])
    -- the tokens end in the source
    binder_source : {deep : ℕ} (place : Span) (within : ℕ) {ts : List Token}
        → Front 0 deep ts → FrontBinder deep (name_token place ∷ token In within ∷ ts)
