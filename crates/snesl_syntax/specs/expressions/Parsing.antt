-- The machine's data that the parser's hold, and what the parser's functions return.
use Rattle.std.specs.Prelude.{◌≡◌, List, [], ◌∷◌, Vec, Option, Some, None, Result, Ok, Err, IfOk}
use Rattle.std.specs.declared.alloc.Global.{Global}
use Rattle.std.specs.declared.alloc.AllocError.{AllocError}
use Rattle.snesl_grammar.specs.declared.lexer.token.Token.{Token}
use Rattle.snesl_grammar.specs.declared.tree.expr.Expr.{Expr}
use Rattle.snesl_grammar.specs.tree.Tree.{Tree}
use Rattle.snesl_grammar.specs.tree.View.{tree_of}
use Rattle.snesl_grammar.specs.Limits.{greatest_depth}
use Rattle.snesl_syntax.specs.declared.expressions.measured.Measured.{Measured}
use Rattle.snesl_syntax.specs.declared.expressions.forms.Form.{Form}
use Rattle.snesl_syntax.specs.declared.expressions.forms.Form.TheVariants as forms
use Rattle.snesl_syntax.specs.declared.expressions.forms.Innermost.{Innermost}
use Rattle.snesl_syntax.specs.declared.expressions.closings.Ending.{Ending}
use Rattle.snesl_syntax.specs.declared.expressions.closings.Ending.TheVariants as endings
use Rattle.snesl_syntax.specs.declared.expressions.machine.Point.{Point}
use Rattle.snesl_syntax.specs.declared.expressions.machine.Point.TheVariants as points
use Rattle.snesl_syntax.specs.declared.expressions.machine.Machine.{Machine}
use Rattle.snesl_syntax.specs.declared.expressions.machine.StepError.{StepError}
use Rattle.snesl_syntax.specs.declared.expressions.machine.StepError.TheVariants as errors
use Rattle.snesl_syntax.specs.expressions.Readers.{TokenMove, Stop, unexpected, beyond_depth, within, step}
use Rattle.snesl_syntax.specs.expressions.Parts.{tree_in, trees_in, bound_in}
use Rattle.snesl_syntax.specs.expressions.Machine.{Frame, in_binary, in_prefix, in_call, in_apply, in_group, in_second, in_value, in_let_body, in_condition}
use Rattle.snesl_syntax.specs.expressions.Machine.{in_positive, in_negative, in_braces, in_filter, in_source, in_each_condition, State, operand, after}
use Rattle.snesl_syntax.specs.expressions.Machine.{opening, let_name, let_equals, binder_name, binder_in, Folded, comma_move, paren_move, brace_move}
use Rattle.snesl_syntax.specs.expressions.Machine.{colon_move, bar_move, semicolon_move, in_move, then_move, else_move, expressions}

-- the frame that a form is
abbrev pub frame_of : Form → Frame
frame_of (forms.Binary at operator left) = in_binary at operator (tree_in left)
frame_of (forms.Prefix at operator) = in_prefix at operator
frame_of (forms.Call at function given) = in_call at function (trees_in given)
frame_of (forms.Apply function given) = in_apply function (trees_in given)
frame_of (forms.Group at) = in_group at
frame_of (forms.Second at first) = in_second at (tree_in first)
frame_of (forms.Value at place) = in_value at place
frame_of (forms.LetBody at place value) = in_let_body at place (tree_in value)
frame_of (forms.Condition at) = in_condition at
frame_of (forms.Positive at condition) = in_positive at (tree_in condition)
frame_of (forms.Negative at condition positive) = in_negative at (tree_in condition) (tree_in positive)
frame_of (forms.Braces at given) = in_braces at (trees_in given)
frame_of (forms.Filter at item) = in_filter at (tree_in item)
frame_of (forms.Source at body bound place) = in_source at (tree_in body) (bound_in bound) place
frame_of (forms.EachCondition at body bound) = in_each_condition at (tree_in body) (bound_in bound)

-- forms on frames: the last of the forms becomes the first frame
abbrev pub piled : List Form → List Frame → List Frame
piled [] below = below
piled (form ∷ others) below = piled others (frame_of form ∷ below)

-- the frames that forms are
abbrev pub frames_of : List Form → List Frame
frames_of all = piled all []

-- the same of forms in a vector
abbrev pub frames_in : Vec Form Global → List Frame
frames_in all = frames_of all.items

-- the frames that this form and those around it are
abbrev pub pile : Form → Vec Form Global → List Frame
pile form outer = frame_of form ∷ frames_in outer

-- the state with these frames at this point
abbrev pub state_at : List Frame → Point → State
state_at frames points.Operand = operand frames
state_at frames (points.After last) = after frames (tree_in last)
state_at frames (points.Opening at function) = opening frames at function
state_at frames (points.LetName at) = let_name frames at
state_at frames (points.LetEquals at place) = let_equals frames at place
state_at frames (points.BinderName at body bound) = binder_name frames at (tree_in body) (bound_in bound)
state_at frames (points.BinderIn at body bound place) = binder_in frames at (tree_in body) (bound_in bound) place

-- the state that a machine is in
abbrev pub state_of : Machine → State
state_of machine = state_at (frames_in machine.forms) machine.point

-- the error is the stop of the step, unless memory ran out
abbrev pub Fails : StepError → Result State Stop → Type 0
Fails errors.NoMemory next = Unit {0}
Fails errors.Unexpected next = next ≡ Err unexpected
Fails errors.TooDeep next = next ≡ Err beyond_depth

-- what a step returned is what the machine's step gives, unless memory ran out
abbrev pub IsStep : Result Machine StepError → Result State Stop → Type 0
IsStep (Ok machine) next = next ≡ Ok (state_of machine)
IsStep (Err error) next = Fails error next

-- what was returned is what this move gives within the greatest depth, unless memory ran out
abbrev pub GivesBy : Result Machine StepError → Option (TokenMove State) → Type 0
GivesBy result found = IsStep result (within greatest_depth found)

-- what was returned is what the token gives at this point of these forms, unless memory ran out
abbrev pub GivesAt : Result Machine StepError → Vec Form Global → Point → Token → Type 0
GivesAt result all point token = IsStep result (step expressions greatest_depth (state_at (frames_in all) point) token)

-- the forms and the expression are these, unless memory ran out
abbrev pub FoldsTo : Result (Vec Form Global × Measured) AllocError → Folded → Type 0
FoldsTo result folded = IfOk result (λ found. folded ≡ record { frames = frames_in found.0; last = tree_in found.1 })

-- the expression, the innermost form around it and the others, or Unexpected where there is no form around it
abbrev pub Within : Result Innermost StepError → Folded → Type 0
Within (Ok found) folded = folded ≡ record { frames = pile found.form found.outer; last = tree_in found.whole }
Within (Err errors.NoMemory) folded = Unit {0}
Within (Err errors.Unexpected) folded = folded.frames ≡ []
Within (Err errors.TooDeep) folded = ⊥

-- the move of a token that ends a part of the innermost form
abbrev pub ending_move : Ending → List Frame → Tree → Option (TokenMove State)
ending_move endings.Comma = comma_move
ending_move endings.RightParen = paren_move
ending_move endings.RightBrace = brace_move
ending_move endings.Colon = colon_move
ending_move endings.Bar = bar_move
ending_move endings.Semicolon = semicolon_move
ending_move endings.In = in_move
ending_move endings.Then = then_move
ending_move endings.Else = else_move

-- the expression that was found is this
abbrev pub IsThis : Option Expr → Option Tree → Type 0
IsThis (Some expr) tree = tree ≡ Some (tree_of expr)
IsThis None tree = tree ≡ None
