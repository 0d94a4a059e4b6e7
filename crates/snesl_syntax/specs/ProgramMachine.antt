-- The states that the reader of programs after their dialect is in, and what it returns.
use Rattle.std.specs.Prelude.{◌≡◌, List, Vec, map, Option, Some, None, Result}
use Rattle.std.specs.declared.alloc.Global.{Global}
use Rattle.snesl_grammar.specs.declared.lexer.token.TokenKind.{TokenKind}
use Rattle.snesl_grammar.specs.declared.lexer.token.Token.{Token}
use Rattle.snesl_grammar.specs.declared.tree.declaration.Declaration.{Declaration}
use Rattle.snesl_grammar.specs.declared.tree.declaration.WrittenType.{WrittenType}
use Rattle.snesl_grammar.specs.tree.Tree.{DeclarationTree}
use Rattle.snesl_grammar.specs.tree.View.{tree_of, type_tree, typed_of, declaration_of}
use Rattle.snesl_grammar.specs.Limits.{greatest_depth}
use Rattle.snesl_syntax.specs.declared.expressions.machine.StepError.{StepError}
use Rattle.snesl_syntax.specs.expressions.Readers.{TokenMove, Reader, within, step}
use Rattle.snesl_syntax.specs.expressions.Machine.{State, expressions}
use Rattle.snesl_syntax.specs.expressions.Parsing.{state_of}
use Rattle.snesl_syntax.specs.declared.programs.Owner.{Owner}
use Rattle.snesl_syntax.specs.declared.programs.Owner.TheVariants as owners
use Rattle.snesl_syntax.specs.declared.programs.Header.{Header}
use Rattle.snesl_syntax.specs.declared.programs.ProgramPoint.{ProgramPoint}
use Rattle.snesl_syntax.specs.declared.programs.ProgramPoint.TheVariants as points
use Rattle.snesl_syntax.specs.declared.programs.ProgramMachine.{ProgramMachine}
use Rattle.snesl_syntax.specs.declared.programs.Parsed.{Parsed}
use Rattle.snesl_syntax.specs.Programs.{Rest, TypeOf, of_input, of_parameter, of_result, ProgramState, between, awaits_input, awaits_input_colon}
use Rattle.snesl_syntax.specs.Programs.{awaits_function, awaits_open, awaits_parameter, awaits_parameter_colon, awaits_result, in_type, in_body}
use Rattle.snesl_syntax.specs.Programs.{in_final, type_end, programs}
use Rattle.snesl_syntax.specs.Programs.{Header as OpenFunction}
use Rattle.snesl_syntax.specs.TypeMachine.{type_state, IsStep}

-- how programs are read after their dialect
abbrev pub rests : Reader (ProgramState State) Rest
rests = programs expressions

-- declarations as the tree has them
abbrev pub declarations_in : Vec Declaration Global → List DeclarationTree
declarations_in done = map declaration_of done.items

-- what a type is of, after these declarations
abbrev pub owner_of : List DeclarationTree → Owner → TypeOf
owner_of done (owners.Input name) = of_input done name
owner_of done (owners.Parameter function given name) = of_parameter done function (map typed_of given.items) name
owner_of done (owners.Result function parameters) = of_result done function (map typed_of parameters.items)

-- a function before its body, after these declarations
abbrev pub header_of : List DeclarationTree → Header → OpenFunction
header_of done header =
    record { done = done; function = header.name; parameters = map typed_of header.parameters.items; result = type_tree header.result }

-- the same after declarations in a vector
abbrev pub header_in : Vec Declaration Global → Header → OpenFunction
header_in done header = header_of (declarations_in done) header

-- the state at this point, after these declarations
abbrev pub state_at : List DeclarationTree → ProgramPoint → ProgramState State
state_at done points.Between = between done
state_at done points.Input = awaits_input done
state_at done (points.InputColon name) = awaits_input_colon done name
state_at done points.Function = awaits_function done
state_at done (points.Open function) = awaits_open done function
state_at done (points.Parameter function given) = awaits_parameter done function (map typed_of given.items)
state_at done (points.ParameterColon function given name) = awaits_parameter_colon done function (map typed_of given.items) name
state_at done (points.ResultColon function parameters) = awaits_result done function (map typed_of parameters.items)
state_at done (points.Type owner machine) = in_type (owner_of done owner) (type_state machine)
state_at done (points.Body header machine) = in_body (header_of done header) (state_of machine)
state_at done (points.Final machine) = in_final done (state_of machine)

-- the state that a machine is in
abbrev pub program_state : ProgramMachine → ProgramState State
program_state machine = state_at (declarations_in machine.done) machine.point

-- what was returned is what this move makes within the greatest depth, unless memory ran out
abbrev pub StepsBy : Result ProgramMachine StepError → Option (TokenMove (ProgramState State)) → Type 0
StepsBy result found = IsStep program_state result (within greatest_depth found)

-- what was returned is what the token makes of the state at this point after these declarations, unless memory ran out
abbrev pub StepsAt : Result ProgramMachine StepError → Vec Declaration Global → ProgramPoint → Token → Type 0
StepsAt result done point token = IsStep program_state result (step rests greatest_depth (state_at (declarations_in done) point) token)

-- what was returned is what a token of this kind makes after this type of the owner, unless memory ran out
abbrev pub EndsType : Result ProgramMachine StepError → Vec Declaration Global → Owner → WrittenType → TokenKind → Type 0
EndsType result done owner ty kind = StepsBy result (type_end expressions (owner_of (declarations_in done) owner) kind (type_tree ty))

-- the rest of a program, with these parts
abbrev pub parsed_rest : Parsed → Rest
parsed_rest parsed = record { declarations = declarations_in parsed.declarations; expression = tree_of parsed.expr }

-- what was found is this rest
abbrev pub IsThisRest : Option Parsed → Option Rest → Type 0
IsThisRest (Some parsed) rest = rest ≡ Some (parsed_rest parsed)
IsThisRest None rest = rest ≡ None
