use Rattle.snesl_grammar.proofs.OfLexer.Longest.{first_is_longest}
use Rattle.snesl_grammar.proofs.lexer.lexer.longest_lexeme.Goals as goal

pub returns : goal.returns
returns c = first_is_longest
