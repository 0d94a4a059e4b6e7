-- Which programs a text spells.
use Rattle.std.specs.Prelude.{ℕ, ◌≤◌, List, length, map}
use Rattle.snesl_data.specs.declared.dialect.Dialect.{Dialect}
use Rattle.snesl_grammar.specs.declared.lexer.token.Token.{Token}
use Rattle.snesl_grammar.specs.lexer.Lexical.{dialect_of, Tokens}
use Rattle.snesl_grammar.specs.declared.tree.declaration.Declaration.{Declaration}
use Rattle.snesl_grammar.specs.declared.tree.expr.Expr.{Expr}
use Rattle.snesl_grammar.specs.tree.Tree.{ProgramTree}
use Rattle.snesl_grammar.specs.tree.View.{tree_of, declaration_of}
use Rattle.snesl_grammar.specs.Limits.{greatest_length, greatest_depth}
use Rattle.snesl_grammar.specs.Programs.{WholeProgram, program_depth}

-- the program of this dialect, these declarations and this expression
abbrev pub program_with : Dialect → List Declaration → Expr → ProgramTree
program_with dialect declarations expr = record { dialect = dialect; declarations = map declaration_of declarations; expression = tree_of expr }

-- the text spells this program, within the limits
pub record IsSpelled (text : List ℕ) (program : ProgramTree) : Type 0 where
  -- the text is not too long
  pub is_short : length text ≤ greatest_length
  -- its bytes are tokens, in the dialect that it names
  pub tokens : List Token
  pub are_tokens : Tokens (dialect_of text) 0 text tokens
  -- the tokens are this program, which is not too deep
  pub is_whole : WholeProgram tokens program
  pub is_shallow : program_depth program ≤ greatest_depth
