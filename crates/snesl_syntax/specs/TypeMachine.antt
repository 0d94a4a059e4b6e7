-- The states that the reader of types is in, and what its functions return.
use Rattle.std.specs.Prelude.{◌≡◌, List, [], ◌∷◌, Vec, Option, Some, None, Result, Ok, Err}
use Rattle.std.specs.declared.alloc.Global.{Global}
use Rattle.snesl_grammar.specs.declared.lexer.token.Token.{Token}
use Rattle.snesl_grammar.specs.declared.tree.declaration.WrittenType.{WrittenType}
use Rattle.snesl_grammar.specs.tree.View.{type_tree}
use Rattle.snesl_grammar.specs.Limits.{greatest_depth}
use Rattle.snesl_syntax.specs.expressions.Readers.{Stop, unexpected, beyond_depth, TokenMove, within, step}
use Rattle.snesl_syntax.specs.declared.expressions.machine.StepError.{StepError}
use Rattle.snesl_syntax.specs.declared.expressions.machine.StepError.TheVariants as errors
use Rattle.snesl_syntax.specs.declared.types.TypeForm.{TypeForm}
use Rattle.snesl_syntax.specs.declared.types.TypeForm.TheVariants as forms
use Rattle.snesl_syntax.specs.declared.types.TypePoint.{TypePoint}
use Rattle.snesl_syntax.specs.declared.types.TypePoint.TheVariants as points
use Rattle.snesl_syntax.specs.declared.types.TypeMachine.{TypeMachine}
use Rattle.snesl_syntax.specs.Types.{TypeFrame, in_first, in_second, in_vector, in_sequence, TypeState, type_begins, type_ended, finished_type, types}

-- the frame that a form is
abbrev pub frame_of : TypeForm → TypeFrame
frame_of (forms.First at) = in_first at
frame_of (forms.Second at first) = in_second at (type_tree first)
frame_of (forms.Vector at) = in_vector at
frame_of (forms.Sequence at) = in_sequence at

-- forms on frames: the last of the forms becomes the first frame
abbrev pub piled : List TypeForm → List TypeFrame → List TypeFrame
piled [] below = below
piled (form ∷ others) below = piled others (frame_of form ∷ below)

-- the frames that forms are
abbrev pub frames_of : List TypeForm → List TypeFrame
frames_of all = piled all []

-- the state with these frames at this point
abbrev pub state_at : List TypeFrame → TypePoint → TypeState
state_at frames points.Begins = type_begins frames
state_at frames (points.Ended last) = type_ended frames (type_tree last)

-- the state after this part of a form, around which are these
abbrev pub ended_in : TypeForm → Vec TypeForm Global → WrittenType → TypeState
ended_in form outer last = type_ended (frame_of form ∷ frames_of outer.items) (type_tree last)

-- the state that a machine is in
abbrev pub type_state : TypeMachine → TypeState
type_state machine = state_at (frames_of machine.forms.items) machine.point

-- the error is the stop of a step, unless memory ran out
abbrev pub Stops : {State : Type 0} → StepError → Result State Stop → Type 0
Stops errors.NoMemory next = Unit {0}
Stops errors.Unexpected next = next ≡ Err unexpected
Stops errors.TooDeep next = next ≡ Err beyond_depth

-- what a machine's step returned is what its reader's step gives, unless memory ran out
abbrev pub IsStep : {Machine State : Type 0} → (Machine → State) → Result Machine StepError → Result State Stop → Type 0
IsStep state_of (Ok machine) next = next ≡ Ok (state_of machine)
IsStep state_of (Err error) next = Stops error next

-- what was returned is what this move makes within the greatest depth, unless memory ran out
abbrev pub TypeStepsBy : Result TypeMachine StepError → Option (TokenMove TypeState) → Type 0
TypeStepsBy result found = IsStep type_state result (within greatest_depth found)

-- what was returned is what the token makes of the state, unless memory ran out
abbrev pub TypeSteps : Result TypeMachine StepError → TypeState → Token → Type 0
TypeSteps result state token = IsStep type_state result (step types greatest_depth state token)

-- the type is that of the state, or the state has none and the machine is in it
abbrev pub IsWholeType : Result WrittenType TypeMachine → TypeState → Type 0
IsWholeType (Ok written) state = finished_type state ≡ Some (type_tree written)
IsWholeType (Err machine) state = (type_state machine ≡ state) × (finished_type state ≡ None)
