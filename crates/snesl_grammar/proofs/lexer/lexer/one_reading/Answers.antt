use Rattle.snesl_grammar.proofs.OfLexer.OneReading.{one_reading}
use Rattle.snesl_grammar.proofs.lexer.lexer.one_reading.Goals as goal

pub returns : goal.returns
returns c = one_reading
