use Rattle.std.proofs.Common.{ap, drop, ◌∙◌}
use Rattle.snesl_grammar.proofs.OfLexer.Lexing.{rest_is}
use Rattle.snesl_grammar.proofs.lexer.lexer.after_blanks.Goals as goal

pub returns : goal.returns
returns c = rest_is c.args.text.now c.blanks_len.result ∙ ap (λ n. drop n c.args.text.now) c.blanks_len.ensures.count
