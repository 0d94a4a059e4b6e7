-- How programs are read after their dialect, given how expressions are.
use Rattle.std.specs.Prelude.{ℕ, List, [], ◌∷◌, ◌++◌, Option, Some, None}
use Rattle.snesl_grammar.specs.declared.lexer.token.TokenKind.{TokenKind}
use Rattle.snesl_grammar.specs.declared.lexer.token.TokenKind.TheVariants as kinds
use Rattle.snesl_grammar.specs.declared.lexer.token.Token.{Token}
use Rattle.snesl_grammar.specs.declared.tree.span.Span.{Span}
use Rattle.snesl_grammar.specs.tree.Tree.{Tree, TypeTree, TypedName, DeclarationTree, declares_input, declares_function}
use Rattle.snesl_syntax.specs.expressions.Readers.{TokenMove, at_any_depth, Reader}
use Rattle.snesl_syntax.specs.Types.{TypeState, types}
use Rattle.snesl_grammar.specs.Programs.{typed}

-- a program after its dialect: its declarations in order, and its expression
pub record Rest : Type 0 where
  pub declarations : List DeclarationTree
  pub expression : Tree

-- what a type is of, after the declarations that are whole
pub data TypeOf : Type 0 where
  -- an input
  of_input : (done : List DeclarationTree) (place : Span) → TypeOf
  -- a parameter of a function, after those that are given
  of_parameter : (done : List DeclarationTree) (function : Span) (given : List TypedName) (place : Span) → TypeOf
  -- the result of a function
  of_result : (done : List DeclarationTree) (function : Span) (parameters : List TypedName) → TypeOf

-- a function before its body, after the declarations that are whole
pub record Header : Type 0 where
  pub done : List DeclarationTree
  pub function : Span
  pub parameters : List TypedName
  pub result : TypeTree

-- What may come next after a dialect, after the declarations that are whole. Expressions are read in states of their own.
pub data ProgramState (State : Type 0) : Type 0 where
  -- a declaration or the expression begins
  between : (done : List DeclarationTree) → ProgramState State
  -- the name of an input comes, or its colon
  awaits_input : (done : List DeclarationTree) → ProgramState State
  awaits_input_colon : (done : List DeclarationTree) (place : Span) → ProgramState State
  -- the name of a function comes, or its opening parenthesis
  awaits_function : (done : List DeclarationTree) → ProgramState State
  awaits_open : (done : List DeclarationTree) (function : Span) → ProgramState State
  -- the name of the next parameter comes, or its colon
  awaits_parameter : (done : List DeclarationTree) (function : Span) (given : List TypedName) → ProgramState State
  awaits_parameter_colon : (done : List DeclarationTree) (function : Span) (given : List TypedName) (place : Span) → ProgramState State
  -- the colon before the type of the result comes
  awaits_result : (done : List DeclarationTree) (function : Span) (parameters : List TypedName) → ProgramState State
  -- a type is open, the body of a function, or the expression
  in_type : (owner : TypeOf) (state : TypeState) → ProgramState State
  in_body : (header : Header) (state : State) → ProgramState State
  in_final : (done : List DeclarationTree) (state : State) → ProgramState State

-- the move of a part that is open
abbrev pub lifted : {Inner Outer : Type 0} → (Inner → Outer) → Option (TokenMove Inner) → Option (TokenMove Outer)
lifted around None = None
lifted around (Some found) = Some (record { want = found.want; next = around found.next })

-- the first move, or where there is none the other
abbrev pub or_else : {State : Type 0} → Option (TokenMove State) → Option (TokenMove State) → Option (TokenMove State)
or_else None other = other
or_else (Some found) other = Some found

-- what the end of a part may lead to, where the part is whole
abbrev pub when_whole : {Form State : Type 0} → Option Form → (Form → Option (TokenMove State)) → Option (TokenMove State)
when_whole None ends = None
when_whole (Some form) ends = ends form

-- the name at an offset
abbrev pub span : ℕ → ℕ → Span
span at len = record { at = at; len = len }

-- a semicolon ends the body of a function
abbrev pub body_end : {State : Type 0} → Header → TokenKind → Tree → Option (TokenMove (ProgramState State))
body_end header kinds.Semicolon body =
    at_any_depth (between (header.done ++ declares_function header.function header.parameters header.result body ∷ []))
body_end header _ body = None

module _ {State : Type 0} (expressions : Reader State Tree) where
  -- A semicolon ends the type of an input, a comma or a parenthesis that of a parameter, and `=` that of a result.
  abbrev pub type_end : TypeOf → TokenKind → TypeTree → Option (TokenMove (ProgramState State))
  type_end (of_input done place) kinds.Semicolon written = at_any_depth (between (done ++ declares_input (typed place written) ∷ []))
  type_end (of_parameter done function given place) kinds.Comma written = at_any_depth (awaits_parameter done function (given ++ typed place written ∷ []))
  type_end (of_parameter done function given place) kinds.RightParen written = at_any_depth (awaits_result done function (given ++ typed place written ∷ []))
  type_end (of_result done function parameters) kinds.Equals result =
      at_any_depth (in_body (record { done = done; function = function; parameters = parameters; result = result }) expressions.start)
  type_end _ _ written = None

  -- the move of a token of this kind at this offset where no type, body or expression is open
  abbrev pub fixed_move : ProgramState State → TokenKind → ℕ → Option (TokenMove (ProgramState State))
  fixed_move (between done) kinds.Input at = at_any_depth (awaits_input done)
  fixed_move (between done) kinds.Function at = at_any_depth (awaits_function done)
  fixed_move (awaits_input done) (kinds.Name len) at = at_any_depth (awaits_input_colon done (span at len))
  fixed_move (awaits_input_colon done place) kinds.Colon at = at_any_depth (in_type (of_input done place) types.start)
  fixed_move (awaits_function done) (kinds.Name len) at = at_any_depth (awaits_open done (span at len))
  fixed_move (awaits_open done function) kinds.LeftParen at = at_any_depth (awaits_parameter done function [])
  fixed_move (awaits_parameter done function given) (kinds.Name len) at = at_any_depth (awaits_parameter_colon done function given (span at len))
  fixed_move (awaits_parameter_colon done function given place) kinds.Colon at = at_any_depth (in_type (of_parameter done function given place) types.start)
  fixed_move (awaits_result done function parameters) kinds.Colon at = at_any_depth (in_type (of_result done function parameters) types.start)
  fixed_move _ _ at = None

  -- a token goes on with the body of a function
  abbrev pub body_move : Header → State → Token → Option (TokenMove (ProgramState State))
  body_move header state token = lifted (in_body header) (expressions.move state token)

  -- A token goes on with the part that is open, or else ends it, where it is whole.
  -- Between declarations a token begins the expression, or else a declaration.
  abbrev pub program_move : ProgramState State → Token → Option (TokenMove (ProgramState State))
  program_move (between done) token =
      or_else (lifted (in_final done) (expressions.move expressions.start token)) (fixed_move (between done) token.kind token.at)
  program_move (in_type owner state) token =
      or_else (lifted (in_type owner) (types.move state token)) (when_whole (types.finished state) (type_end owner token.kind))
  program_move (in_body header state) token =
      or_else (body_move header state token) (when_whole (expressions.finished state) (body_end header token.kind))
  program_move (in_final done state) token = lifted (in_final done) (expressions.move state token)
  program_move state token = fixed_move state token.kind token.at

  -- the rest of a program with this expression, where that is whole
  abbrev pub with_expression : List DeclarationTree → Option Tree → Option Rest
  with_expression done None = None
  with_expression done (Some expression) = Some (record { declarations = done; expression = expression })

  -- the rest of a program that the tokens so far are, where they are one
  abbrev pub finished_program : ProgramState State → Option Rest
  finished_program (between done) = with_expression done (expressions.finished expressions.start)
  finished_program (in_final done state) = with_expression done (expressions.finished state)
  finished_program _ = None

  -- after their dialect, programs are read from before their first declaration
  abbrev pub programs : Reader (ProgramState State) Rest
  programs = record { start = between []; move = program_move; finished = finished_program }
