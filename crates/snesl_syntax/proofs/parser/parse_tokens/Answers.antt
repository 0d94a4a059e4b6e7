use Rattle.std.proofs.Common.{arith}
use Rattle.snesl_grammar.specs.Limits.{greatest_depth}
use Rattle.snesl_syntax.specs.Answer.{parse_rest}
use Rattle.snesl_syntax.specs.Parse.{AnswersTokens}
use Rattle.snesl_syntax.specs.DialectMachine.{reader}
use Rattle.snesl_syntax.proofs.Verdicts.{programs_answer, right_by}
use Rattle.snesl_syntax.proofs.parser.parse_tokens.Goals as goal

pub returns : goal.returns
returns c =
    right_by (AnswersTokens greatest_depth c.args.len c.args.tokens.now) c.answered.result
    (parse_rest reader greatest_depth c.args.len reader.start c.args.tokens.now)
    (programs_answer greatest_depth c.args.len c.args.tokens.now (omega arith)) c.answered.ensures
