-- Each text has an answer.
use Rattle.std.proofs.Common.{ℕ, ◌≤◌, List, length, Result, Ok, Err, inl, inr, arith}
use Rattle.std.proofs.lemmas.Bool.{cases_lt}
use Rattle.snesl_data.specs.declared.refusal.Refusal.{Refusal}
use Rattle.snesl_data.specs.declared.refusal.Refusal.TheVariants.{TooLong, Lex}
use Rattle.snesl_grammar.specs.declared.lexer.token.Token.{Token}
use Rattle.snesl_grammar.specs.lexer.Readings.{Reads}
use Rattle.snesl_grammar.proofs.OfLexer.OneReading.{one_reading}
use Rattle.snesl_grammar.specs.tree.Tree.{ProgramTree}
use Rattle.snesl_grammar.specs.Limits.{greatest_depth}
use Rattle.snesl_grammar.specs.Limits.{greatest_length}
use Rattle.snesl_syntax.specs.Answer.{parse_rest}
use Rattle.snesl_syntax.specs.DialectMachine.{reader}
use Rattle.snesl_syntax.specs.Parse.{Parses, too_long, bad_byte, read, HaveSomeAnswer}
use Rattle.snesl_syntax.proofs.Verdicts.{programs_answer}

-- a text within the limit is answered as it reads: as its tokens, or at its first bad byte
of_reading : (bytes : List ℕ) → length bytes ≤ greatest_length → (reading : Result (List Token) ℕ) → Reads bytes reading
    → (found : Result ProgramTree Refusal) × Parses bytes found
of_reading bytes fits (Ok tokens) reads = (
  parse_rest reader greatest_depth (length bytes) reader.start tokens,
  read fits reads (programs_answer greatest_depth (length bytes) tokens (omega arith)),
)
of_reading bytes fits (Err at) reads = (Err (Lex at), bad_byte fits reads)

pub some_parse : HaveSomeAnswer
some_parse bytes = elim (cases_lt greatest_length (length bytes)) [
  | inl long ↦ (Err TooLong, too_long long)
  | inr fits ↦ let reading = one_reading bytes in of_reading bytes fits reading.0 reading.1
]
