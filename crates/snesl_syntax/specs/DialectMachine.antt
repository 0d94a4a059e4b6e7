-- The states that the reader of whole programs is in, and what its functions return.
use Rattle.std.specs.Prelude.{◌≡◌, Option, Some, None, Result, Ok, Err}
use Rattle.snesl_data.specs.declared.refusal.Refusal.{Refusal}
use Rattle.snesl_data.specs.declared.refusal.Refusal.TheVariants as refusals
use Rattle.snesl_grammar.specs.tree.Tree.{ProgramTree}
use Rattle.snesl_grammar.specs.declared.lexer.token.Token.{Token}
use Rattle.snesl_grammar.specs.Limits.{greatest_depth}
use Rattle.snesl_syntax.specs.declared.expressions.machine.StepError.{StepError}
use Rattle.snesl_syntax.specs.expressions.Readers.{Reader, step}
use Rattle.snesl_syntax.specs.expressions.Machine.{State}
use Rattle.snesl_syntax.specs.declared.dialects.DialectMachine.{DialectMachine}
use Rattle.snesl_syntax.specs.declared.dialects.DialectMachine.TheVariants as points
use Rattle.snesl_syntax.specs.declared.dialects.Whole.{Whole}
use Rattle.snesl_syntax.specs.Programs.{ProgramState}
use Rattle.snesl_syntax.specs.TypeMachine.{IsStep}
use Rattle.snesl_syntax.specs.ProgramMachine.{rests, program_state, parsed_rest}
use Rattle.snesl_syntax.specs.Dialects.{DialectState, beginning, awaits_number, awaits_semicolon, in_rest, program_in, whole_programs}

-- how a text's tokens are read
abbrev pub reader : Reader (DialectState (ProgramState State)) ProgramTree
reader = whole_programs rests

-- the state that a machine is in
abbrev pub dialect_state : DialectMachine → DialectState (ProgramState State)
dialect_state points.Beginning = beginning
dialect_state points.Number = awaits_number
dialect_state points.Semicolon = awaits_semicolon
dialect_state (points.Rest dialect machine) = in_rest dialect (program_state machine)

-- what was returned is what the token makes of the state, unless memory ran out
abbrev pub WholeSteps : Result DialectMachine StepError → DialectState (ProgramState State) → Token → Type 0
WholeSteps result state token = IsStep dialect_state result (step reader greatest_depth state token)

-- the program with these parts
abbrev pub whole_program : Whole → ProgramTree
whole_program whole = program_in whole.dialect (parsed_rest whole.parsed)

-- what was found is this program
abbrev pub IsThisProgram : Option Whole → Option ProgramTree → Type 0
IsThisProgram (Some whole) program = program ≡ Some (whole_program whole)
IsThisProgram None program = program ≡ None

-- the program or the refusal is this answer, unless memory ran out
abbrev pub FindsWhole : Result Whole Refusal → Result ProgramTree Refusal → Type 0
FindsWhole (Ok whole) answer = answer ≡ Ok (whole_program whole)
FindsWhole (Err refusals.NoMemory) answer = Unit {0}
FindsWhole (Err refusal) answer = answer ≡ Err refusal

-- the program or the refusal is one of the answers, unless memory ran out
abbrev pub FindsOneOf : (Result ProgramTree Refusal → Type 0) → Result Whole Refusal → Type 0
FindsOneOf Answer (Ok whole) = Answer (Ok (whole_program whole))
FindsOneOf Answer (Err refusals.NoMemory) = Unit {0}
FindsOneOf Answer (Err refusal) = Answer (Err refusal)
