use Rattle.std.proofs.Common.{Some, ap, sym, ◌∙◌, arith}
use Rattle.snesl_values.proofs.InputScan.{rest_is}
use Rattle.snesl_values.proofs.First.{a_word, a_number, a_minus, a_sign, digits_pass}
use Rattle.snesl_values.proofs.marks.first_mark.Goals as goal

pub returns-then-is_ascii_alphabetic-clause-first : goal.returns-then-is_ascii_alphabetic-clause-first
returns-then-is_ascii_alphabetic-clause-first c =
    ap (λ m. Some (m, c.word_len-len.result)) c.word_mark.ensures
    ∙ a_word c.args.bytes.now c.word_len-len.result c.requires (sym c.if-is_ascii_alphabetic.ensures.value) c.word_len-len.ensures.count

pub number_mark-requires : goal.number_mark-requires
number_mark-requires c = digits_pass c.args.bytes.now c.digits_len-len.result c.digits_len-len.ensures.count

pub returns-then-is_ascii_digit-clause-first : goal.returns-then-is_ascii_digit-clause-first
returns-then-is_ascii_digit-clause-first c =
    ap (λ m. Some (m, c.digits_len-len.result)) c.number_mark.ensures
    ∙ a_number c.args.bytes.now c.digits_len-len.result c.requires (sym c.if-is_ascii_digit.ensures.value) c.digits_len-len.ensures.count

pub returns-then-byte-eq45-clause-first : goal.returns-then-byte-eq45-clause-first
returns-then-byte-eq45-clause-first c = ap (λ m. Some m) c.minus_mark.ensures.first ∙ a_minus c.args.bytes.now _ c.requires c.if-byte-eq45.true (rest_is c.args.bytes.now 1)

pub returns-clause-first : goal.returns-clause-first
returns-clause-first c =
    ap (λ m. Some (m, 1)) c.sign_mark.ensures
    ∙ a_sign c.args.bytes.now c.requires (sym c.if-is_ascii_alphabetic.ensures.value) (sym c.if-is_ascii_digit.ensures.value) (λ e. omega (arith, e, c.if-byte-eq45.false))
