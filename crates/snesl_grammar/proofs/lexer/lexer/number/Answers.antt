use Rattle.std.proofs.Common.{arith}
use Rattle.snesl_grammar.proofs.OfLexer.Lexing.{early}
use Rattle.snesl_grammar.proofs.lexer.lexer.number.Goals as goal

pub returns-then-value-greatest : goal.returns-then-value-greatest
returns-then-value-greatest c =
    early c.args.dialect c.args.digits.now c.loop-c.c-index c.loop-c.value (omega arith) c.loop-c.invariant.same
    (omega (arith, c.from-digit.ensures, c.greatest_literal-greatest.ensures.exact))
