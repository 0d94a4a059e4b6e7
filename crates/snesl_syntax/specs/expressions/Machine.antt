-- The parser on one token after the other: what is open, and what a token makes of it.
use Rattle.std.specs.Prelude.{ℕ, suc, ◌+◌, Bool, true, false, List, [], ◌∷◌, length, Option, Some, None, nat_le, nat_lt, if◌then◌else◌}
use Rattle.snesl_grammar.specs.declared.lexer.token.TokenKind.{TokenKind}
use Rattle.snesl_grammar.specs.declared.lexer.token.TokenKind.TheVariants as kinds
use Rattle.snesl_grammar.specs.declared.tree.operator.Operator.{Operator}
use Rattle.snesl_grammar.specs.declared.tree.operator.Operator.TheVariants.{Or, And, Equal, Less, AtMost, Greater, AtLeast, Append, Add, Subtract, Multiply, Divide, Remainder, Index}
use Rattle.snesl_grammar.specs.declared.tree.operator.Prefix.{Prefix}
use Rattle.snesl_grammar.specs.declared.tree.operator.Prefix.TheVariants.{Negate, Not}
use Rattle.snesl_grammar.specs.declared.tree.operator.Builtin.{Builtin}
use Rattle.snesl_grammar.specs.declared.tree.operator.Builtin.TheVariants as builtins
use Rattle.snesl_grammar.specs.declared.tree.span.Span.{Span}
use Rattle.snesl_grammar.specs.tree.Tree.{Tree, Trees, Binders, integer, truth, name, binary, prefix, call, apply, group, pair, binding, choice, literal}
use Rattle.snesl_grammar.specs.tree.Tree.{filter, each, none, none_bound, always, only_where, depth}
use Rattle.snesl_grammar.specs.Operators.{level, left_level, prefix_level}
use Rattle.snesl_grammar.specs.Expressions.{added, bound_also, binder_count, greatest_binder_count}
use Rattle.snesl_syntax.specs.expressions.Readers.{TokenMove, at_any_depth, Reader}

-- a form that is open, with its whole parts
pub data Frame : Type 0 where
  -- the right operand is open
  in_binary : (at : ℕ) (operator : Operator) (left : Tree) → Frame
  -- the operand after its operator is open
  in_prefix : (at : ℕ) (operator : Prefix) → Frame
  -- an argument is open, after those that are given
  in_call : (at : ℕ) (function : Builtin) (given : Trees) → Frame
  in_apply : (function : Span) (given : Trees) → Frame
  -- the first expression in parentheses is open, or the second part of a pair
  in_group : (at : ℕ) → Frame
  in_second : (at : ℕ) (first : Tree) → Frame
  -- the value of a `let` is open, or its body
  in_value : (at : ℕ) (place : Span) → Frame
  in_let_body : (at : ℕ) (place : Span) (value : Tree) → Frame
  -- the condition of an `if` is open, or one of its branches
  in_condition : (at : ℕ) → Frame
  in_positive : (at : ℕ) (condition : Tree) → Frame
  in_negative : (at : ℕ) (condition positive : Tree) → Frame
  -- an item in braces is open, after those that are given; the first may be the body of a comprehension
  in_braces : (at : ℕ) (given : Trees) → Frame
  -- the condition after an item is open
  in_filter : (at : ℕ) (item : Tree) → Frame
  -- the source of a comprehension's binder is open, after binders that are whole, or its condition
  in_source : (at : ℕ) (body : Tree) (binders : Binders) (place : Span) → Frame
  in_each_condition : (at : ℕ) (body : Tree) (binders : Binders) → Frame

-- what may come next; the innermost frame is the first
pub data State : Type 0 where
  -- an operand begins
  operand : (frames : List Frame) → State
  -- an operand goes on, or a frame is closed
  after : (frames : List Frame) (last : Tree) → State
  -- the arguments of a built-in function open
  opening : (frames : List Frame) (at : ℕ) (function : Builtin) → State
  -- the name of a `let` comes, or its `=`
  let_name : (frames : List Frame) (at : ℕ) → State
  let_equals : (frames : List Frame) (at : ℕ) (place : Span) → State
  -- the name of a comprehension's next binder comes, or its `in`
  binder_name : (frames : List Frame) (at : ℕ) (body : Tree) (binders : Binders) → State
  binder_in : (frames : List Frame) (at : ℕ) (body : Tree) (binders : Binders) (place : Span) → State

-- an expression, and the frames around it
pub record Folded : Type 0 where
  pub frames : List Frame
  pub last : Tree

-- whether a form without a closing token binds at least so tightly
abbrev pub binds_at : ℕ → Frame → Bool
binds_at tightness (in_binary at operator left) = nat_le tightness (level operator)
binds_at tightness (in_prefix at operator) = nat_le tightness prefix_level
binds_at tightness (in_let_body at place value) = nat_le tightness 0
binds_at tightness (in_negative at condition positive) = nat_le tightness 0
binds_at tightness _ = false

-- the tree of such a form with its last part
abbrev pub closed_with : Frame → Tree → Tree
closed_with (in_binary at operator left) last = binary at operator left last
closed_with (in_prefix at operator) last = prefix at operator last
closed_with (in_let_body at place value) last = binding at place value last
closed_with (in_negative at condition positive) last = choice at condition positive last
closed_with _ last = last

-- closes the forms without a closing token that bind at least so tightly
abbrev pub reduce : ℕ → List Frame → Tree → Folded
reduce tightness [] last = record { frames = []; last = last }
reduce tightness (frame ∷ frames) last =
    if binds_at tightness frame then reduce tightness frames (closed_with frame last)
    else record { frames = frame ∷ frames; last = last }

-- how tightly a form has to bind to stand bare in the innermost frame
abbrev pub floor : List Frame → ℕ
floor [] = 0
floor (in_binary at operator left ∷ frames) = suc (level operator)
floor (in_prefix at operator ∷ frames) = prefix_level
floor (frame ∷ frames) = 0

-- a move that opens a form with a part in it
abbrev pub open_move : List Frame → State → Option (TokenMove State)
open_move frames next = Some (record { want = suc (suc (length frames)); next = next })

-- the move, where a form that binds so tightly may stand bare
abbrev pub at_level : ℕ → List Frame → Option (TokenMove State) → Option (TokenMove State)
at_level tightness frames found = if nat_le (floor frames) tightness then found else None

-- a move that opens a frame with an operand in it
abbrev pub frame_move : Frame → List Frame → Option (TokenMove State)
frame_move frame frames = open_move frames (operand (frame ∷ frames))

-- the same, where a frame that binds so tightly may stand bare
abbrev pub bare_move : ℕ → Frame → List Frame → Option (TokenMove State)
bare_move tightness frame frames = at_level tightness frames (frame_move frame frames)

-- the word `let` opens one, where it may stand bare
abbrev pub let_move : List Frame → ℕ → Option (TokenMove State)
let_move frames at = at_level 0 frames (open_move frames (let_name frames at))

-- an operator takes the expression before it as its left operand
abbrev pub infix_move : Operator → ℕ → Folded → Option (TokenMove State)
infix_move operator at folded = at_level (level operator) folded.frames (Some (record {
  want = suc (depth folded.last + length folded.frames);
  next = operand (in_binary at operator folded.last ∷ folded.frames);
}))

-- a parenthesis after a name opens a function's arguments
abbrev pub apply_move : List Frame → Tree → Option (TokenMove State)
apply_move frames (name place) = frame_move (in_apply place none) frames
apply_move frames _ = None

-- a comma ends an argument, the first part of a pair, or an item
abbrev pub comma_move : List Frame → Tree → Option (TokenMove State)
comma_move (in_call at function given ∷ frames) last = at_any_depth (operand (in_call at function (added given last) ∷ frames))
comma_move (in_apply function given ∷ frames) last = at_any_depth (operand (in_apply function (added given last) ∷ frames))
comma_move (in_group at ∷ frames) last = at_any_depth (operand (in_second at last ∷ frames))
comma_move (in_braces at given ∷ frames) last = at_any_depth (operand (in_braces at (added given last) ∷ frames))
comma_move _ last = None

-- a parenthesis closes a call, a group or a pair
abbrev pub paren_move : List Frame → Tree → Option (TokenMove State)
paren_move (in_call at function given ∷ frames) last = at_any_depth (after frames (call at function (added given last)))
paren_move (in_apply function given ∷ frames) last = at_any_depth (after frames (apply function (added given last)))
paren_move (in_group at ∷ frames) last = at_any_depth (after frames (group at last))
paren_move (in_second at first ∷ frames) last = at_any_depth (after frames (pair at first last))
paren_move _ last = None

-- a brace closes a literal, an item with its condition, or a comprehension
abbrev pub brace_move : List Frame → Tree → Option (TokenMove State)
brace_move (in_braces at given ∷ frames) last = at_any_depth (after frames (literal at (added given last)))
brace_move (in_filter at item ∷ frames) last = at_any_depth (after frames (filter at item last))
brace_move (in_source at body binders place ∷ frames) last = at_any_depth (after frames (each at body (bound_also binders place last) always))
brace_move (in_each_condition at body binders ∷ frames) last = at_any_depth (after frames (each at body binders (only_where last)))
brace_move _ last = None

-- a colon ends the body of a comprehension
abbrev pub colon_move : List Frame → Tree → Option (TokenMove State)
colon_move (in_braces at none ∷ frames) last = at_any_depth (binder_name frames at last none_bound)
colon_move _ last = None

-- a bar ends an item with a condition, or the binders of a comprehension
abbrev pub bar_move : List Frame → Tree → Option (TokenMove State)
bar_move (in_braces at none ∷ frames) last = at_any_depth (operand (in_filter at last ∷ frames))
bar_move (in_source at body binders place ∷ frames) last = at_any_depth (operand (in_each_condition at body (bound_also binders place last) ∷ frames))
bar_move _ last = None

-- a semicolon ends a binder before the eighth
abbrev pub semicolon_move : List Frame → Tree → Option (TokenMove State)
semicolon_move (in_source at body binders place ∷ frames) last =
    if nat_lt (suc (binder_count binders)) greatest_binder_count then at_any_depth (binder_name frames at body (bound_also binders place last)) else None
semicolon_move _ last = None

-- `in` ends the value of a `let`
abbrev pub in_move : List Frame → Tree → Option (TokenMove State)
in_move (in_value at place ∷ frames) last = at_any_depth (operand (in_let_body at place last ∷ frames))
in_move _ last = None

-- `then` ends a condition, and `else` the first branch
abbrev pub then_move : List Frame → Tree → Option (TokenMove State)
then_move (in_condition at ∷ frames) last = at_any_depth (operand (in_positive at last ∷ frames))
then_move _ last = None

abbrev pub else_move : List Frame → Tree → Option (TokenMove State)
else_move (in_positive at condition ∷ frames) last = at_any_depth (operand (in_negative at condition last ∷ frames))
else_move _ last = None

-- what a closing token does, after forms that are closed with it
abbrev pub closing_move : (List Frame → Tree → Option (TokenMove State)) → List Frame → Tree → Option (TokenMove State)
closing_move found frames last = let folded = reduce 0 frames last in found folded.frames folded.last

-- what an operator does, after forms that bind as tightly as its left operand has to
abbrev pub joining : Operator → ℕ → List Frame → Tree → Option (TokenMove State)
joining operator at frames last = infix_move operator at (reduce (left_level operator) frames last)

-- the move of a token of this kind at this offset where an operand begins, if it has one
abbrev pub operand_move : List Frame → TokenKind → ℕ → Option (TokenMove State)
operand_move frames (kinds.Integer value) at = at_any_depth (after frames (integer at value))
operand_move frames kinds.True at = at_any_depth (after frames (truth at true))
operand_move frames kinds.False at = at_any_depth (after frames (truth at false))
operand_move frames (kinds.Name len) at = at_any_depth (after frames (name (record { at = at; len = len })))
operand_move frames kinds.Minus at = bare_move prefix_level (in_prefix at Negate) frames
operand_move frames kinds.Not at = bare_move prefix_level (in_prefix at Not) frames
operand_move frames kinds.Iota at = open_move frames (opening frames at builtins.Iota)
operand_move frames kinds.ScanAdd at = open_move frames (opening frames at builtins.ScanAdd)
operand_move frames kinds.ReduceAdd at = open_move frames (opening frames at builtins.ReduceAdd)
operand_move frames kinds.ReduceMax at = open_move frames (opening frames at builtins.ReduceMax)
operand_move frames kinds.ReduceAnd at = open_move frames (opening frames at builtins.ReduceAnd)
operand_move frames kinds.ReduceOr at = open_move frames (opening frames at builtins.ReduceOr)
operand_move frames kinds.Length at = open_move frames (opening frames at builtins.Length)
operand_move frames kinds.Concat at = open_move frames (opening frames at builtins.Concat)
operand_move frames kinds.Part at = open_move frames (opening frames at builtins.Part)
operand_move frames kinds.The at = open_move frames (opening frames at builtins.The)
operand_move frames kinds.Tab at = open_move frames (opening frames at builtins.Tab)
operand_move frames kinds.Seq at = open_move frames (opening frames at builtins.Seq)
operand_move frames kinds.Fst at = open_move frames (opening frames at builtins.Fst)
operand_move frames kinds.Snd at = open_move frames (opening frames at builtins.Snd)
operand_move frames kinds.LeftParen at = frame_move (in_group at) frames
operand_move frames kinds.LeftBrace at = frame_move (in_braces at none) frames
operand_move frames kinds.Let at = let_move frames at
operand_move frames kinds.If at = bare_move 0 (in_condition at) frames
operand_move frames _ at = None

-- the same after an operand
abbrev pub after_move : List Frame → Tree → TokenKind → ℕ → Option (TokenMove State)
after_move frames last kinds.Or at = joining Or at frames last
after_move frames last kinds.And at = joining And at frames last
after_move frames last kinds.Same at = joining Equal at frames last
after_move frames last kinds.Less at = joining Less at frames last
after_move frames last kinds.AtMost at = joining AtMost at frames last
after_move frames last kinds.Greater at = joining Greater at frames last
after_move frames last kinds.AtLeast at = joining AtLeast at frames last
after_move frames last kinds.Append at = joining Append at frames last
after_move frames last kinds.Plus at = joining Add at frames last
after_move frames last kinds.Minus at = joining Subtract at frames last
after_move frames last kinds.Star at = joining Multiply at frames last
after_move frames last kinds.Slash at = joining Divide at frames last
after_move frames last kinds.Percent at = joining Remainder at frames last
after_move frames last kinds.At at = joining Index at frames last
after_move frames last kinds.LeftParen at = apply_move frames last
after_move frames last kinds.Comma at = closing_move comma_move frames last
after_move frames last kinds.RightParen at = closing_move paren_move frames last
after_move frames last kinds.RightBrace at = closing_move brace_move frames last
after_move frames last kinds.Colon at = closing_move colon_move frames last
after_move frames last kinds.Bar at = closing_move bar_move frames last
after_move frames last kinds.Semicolon at = closing_move semicolon_move frames last
after_move frames last kinds.In at = closing_move in_move frames last
after_move frames last kinds.Then at = closing_move then_move frames last
after_move frames last kinds.Else at = closing_move else_move frames last
after_move frames last _ at = None

-- the move of a token of this kind at this offset, if it has one
abbrev pub token_move : State → TokenKind → ℕ → Option (TokenMove State)
token_move (operand frames) kind at = operand_move frames kind at
token_move (after frames last) kind at = after_move frames last kind at
token_move (opening frames begun function) kinds.LeftParen at = at_any_depth (operand (in_call begun function none ∷ frames))
token_move (let_name frames begun) (kinds.Name len) at = at_any_depth (let_equals frames begun (record { at = at; len = len }))
token_move (let_equals frames begun place) kinds.Equals at = at_any_depth (operand (in_value begun place ∷ frames))
token_move (binder_name frames begun body binders) (kinds.Name len) at = at_any_depth (binder_in frames begun body binders (record { at = at; len = len }))
token_move (binder_in frames begun body binders place) kinds.In at = at_any_depth (operand (in_source begun body binders place ∷ frames))
token_move _ _ at = None

-- the expression, where no frame is left open
abbrev pub alone : Folded → Option Tree
alone folded = if nat_le (length folded.frames) 0 then Some folded.last else None

-- the expression that the tokens so far are, where they are one
abbrev pub finished_of : State → Option Tree
finished_of (after frames last) = alone (reduce 0 frames last)
finished_of _ = None

-- expressions are read from where an operand begins and nothing is open
abbrev pub expressions : Reader State Tree
expressions = record { start = operand []; move = λ state token. token_move state token.kind token.at; finished = finished_of }
