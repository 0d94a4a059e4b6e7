use Rattle.std.proofs.Common.{arith, length, subst, sym, IsTrue, take}
use Rattle.std.specs.List.{AllByRecursion}
use Rattle.std.specs.Char.{is_ascii_digit}
use Rattle.std.proofs.Common.{get_or}
use Rattle.snesl_grammar.specs.lexer.Lexical.{IsTokenWithin}
use Rattle.snesl_grammar.proofs.OfLexer.Lexing.{prefix_passes, sign_within}
use Rattle.snesl_grammar.proofs.lexer.lexer.first_token.Goals as goal
use Rattle.snesl_grammar.proofs.lexer.lexer.first_token.Goals.{then-text-gt1, else-text-gt1}

pub number-requires : goal.number-requires
number-requires c =
    subst (λ n. AllByRecursion (λ x. IsTrue (is_ascii_digit x)) (take n c.args.text.now)) (sym c.digits_len-len.ensures.count) (prefix_passes is_ascii_digit c.args.text.now)

pub returns-clause-within : goal.returns-clause-within
returns-clause-within c =
    subst (IsTokenWithin (length c.args.text.now)) (sym c.sign_token.ensures)
    (sign_within (get_or c.args.text.now 0 0) c.if-text-gt1.next (length c.args.text.now) (omega arith) (λ one.
    elim c.if-text-gt1.branch [
      | then-text-gt1 w ↦ absurd (omega arith)
      | else-text-gt1 w ↦ omega arith
    ]))
