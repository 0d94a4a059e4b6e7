-- The machine reads what the grammar says.
use Rattle.std.proofs.Common.{◌≡◌}
use Rattle.snesl_grammar.specs.declared.lexer.token.TokenKind.TheVariants.{Semicolon}
use Rattle.snesl_grammar.specs.tree.Tree.{depth}
use Rattle.snesl_grammar.specs.Expressions.{Whole, Front}
use Rattle.snesl_syntax.specs.expressions.Machine.{expressions}
use Rattle.snesl_syntax.specs.expressions.Readers.{IsReaderOf}
use Rattle.snesl_syntax.proofs.OfExpressions.Beginnings.{front_completes}
use Rattle.snesl_syntax.proofs.OfExpressions.Runs.{whole_reads}
use Rattle.snesl_syntax.proofs.OfExpressions.Stands.{read_stands, read_whole, whole_ends}

pub expressions_read : IsReaderOf expressions (Whole 0) (Front 0) depth (λ kind. kind ≡ Semicolon)
expressions_read = record { reads = whole_reads; stands = read_stands; whole = read_whole; completes = front_completes; ends = whole_ends }
