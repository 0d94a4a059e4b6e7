-- How programs are read from their dialect on, given how they are after it.
use Rattle.std.specs.Prelude.{zero, suc, pos, Option, Some, None}
use Rattle.snesl_data.specs.declared.dialect.Dialect.{Dialect}
use Rattle.snesl_data.specs.declared.dialect.Dialect.TheVariants.{One, Two}
use Rattle.snesl_grammar.specs.declared.lexer.token.TokenKind.{TokenKind}
use Rattle.snesl_grammar.specs.declared.lexer.token.TokenKind.TheVariants as kinds
use Rattle.snesl_grammar.specs.declared.lexer.token.Token.{Token}
use Rattle.snesl_grammar.specs.tree.Tree.{ProgramTree}
use Rattle.snesl_syntax.specs.expressions.Readers.{TokenMove, at_any_depth, Reader}
use Rattle.snesl_syntax.specs.Programs.{Rest, lifted, or_else}

-- What may come next. The rest of a program is read in states of its own.
pub data DialectState (State : Type 0) : Type 0 where
  -- the dialect or the rest begins
  beginning : DialectState State
  -- the number of the dialect comes, or its semicolon
  awaits_number : DialectState State
  awaits_semicolon : DialectState State
  -- the rest is open
  in_rest : (dialect : Dialect) (state : State) → DialectState State

-- the program of this dialect with this rest
abbrev pub program_in : Dialect → Rest → ProgramTree
program_in dialect rest = record { dialect = dialect; declarations = rest.declarations; expression = rest.expression }

-- the program of this dialect, where there is a rest
abbrev pub in_dialect : Dialect → Option Rest → Option ProgramTree
in_dialect dialect None = None
in_dialect dialect (Some rest) = Some (program_in dialect rest)

module _ {State : Type 0} (rests : Reader State Rest) where
  -- the move of a token of this kind where no rest is open
  abbrev pub dialect_move : DialectState State → TokenKind → Option (TokenMove (DialectState State))
  dialect_move beginning kinds.Dialect = at_any_depth awaits_number
  dialect_move awaits_number (kinds.Integer (pos (suc (suc zero)))) = at_any_depth awaits_semicolon
  dialect_move awaits_semicolon kinds.Semicolon = at_any_depth (in_rest Two rests.start)
  dialect_move _ _ = None

  -- The first token begins the rest, which then has the first dialect, or else it begins a dialect.
  abbrev pub whole_move : DialectState State → Token → Option (TokenMove (DialectState State))
  whole_move beginning token = or_else (lifted (in_rest One) (rests.move rests.start token)) (dialect_move beginning token.kind)
  whole_move (in_rest dialect state) token = lifted (in_rest dialect) (rests.move state token)
  whole_move state token = dialect_move state token.kind

  -- the program that the tokens so far are, where they are one
  abbrev pub finished_whole : DialectState State → Option ProgramTree
  finished_whole beginning = in_dialect One (rests.finished rests.start)
  finished_whole (in_rest dialect state) = in_dialect dialect (rests.finished state)
  finished_whole _ = None

  -- whole programs are read from their first token on
  abbrev pub whole_programs : Reader (DialectState State) ProgramTree
  whole_programs = record { start = beginning; move = whole_move; finished = finished_whole }
