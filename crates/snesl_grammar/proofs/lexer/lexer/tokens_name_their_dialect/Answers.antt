use Rattle.snesl_grammar.proofs.OfLexer.Dialects.{names_its_dialect}
use Rattle.snesl_grammar.proofs.lexer.lexer.tokens_name_their_dialect.Goals as goal

pub returns : goal.returns
returns c = names_its_dialect
