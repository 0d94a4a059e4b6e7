use Rattle.std.proofs.Common.{◌≡◌, drop}
use Rattle.snesl_grammar.specs.Limits.{greatest_depth}
use Rattle.snesl_syntax.specs.Answer.{parse_rest}
use Rattle.snesl_syntax.specs.DialectMachine.{reader, dialect_state}
use Rattle.snesl_syntax.proofs.parser.answered.Given as goal

abbrev pub invariant-loop-token : goal.invariant-loop-token
invariant-loop-token l =
    parse_rest reader greatest_depth l.len (dialect_state l.machine) (drop l.token-index l.tokens)
    ≡ parse_rest reader greatest_depth l.len reader.start l.tokens
