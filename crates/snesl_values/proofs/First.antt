-- What stands first in bytes, by the first byte.
use Rattle.std.proofs.Common.{◌≡◌, ℕ, ◌<◌, Bool, true, false, cond, eqb, List, [], ◌∷◌, length, take, drop, get_or, IsTrue, Some, option_map, refl, sym, ap, ◌∙◌, subst, arith}
use Rattle.std.specs.Char.{is_ascii_digit, is_ascii_alphabetic}
use Rattle.std.specs.List.{AllByRecursion, prefix_len, take_while}
use Rattle.std.proofs.lemmas.Bool.{cond-true, cond-false, eqb-true}
use Rattle.std.proofs.lemmas.List.Folds.{length-prefix_len}
use Rattle.std.proofs.lemmas.Bool.Decides.{nat_tests}
use Rattle.snesl_data.specs.Characters.{is_word}
use Rattle.snesl_values.specs.InputTokens.{SizedToken, integer, sign, bad, is_sign, number_of, minus_lexeme, first}
use Rattle.snesl_values.proofs.InputScan.{prefix_passes}
use Rattle.snesl_values.specs.declared.marks.Mark.{Mark}
use Rattle.snesl_values.specs.declared.marks.Mark.TheVariants.{Other}
use Rattle.snesl_values.specs.Marks.{mark_of, sign_mark, word_mark}

-- a token as a scanner sees it, and its length
abbrev pub seen : SizedToken → Mark × ℕ
seen lexeme = (mark_of lexeme.0, lexeme.1)

-- the first byte
abbrev pub head : List ℕ → ℕ
head bytes = get_or bytes 0 0

digit_no_letter : (b : ℕ) → is_ascii_digit b ≡ true → is_ascii_alphabetic b ≡ false
digit_no_letter b h = grind (arith, nat_tests)

pub a_word : (bytes : List ℕ) (len : ℕ) → 0 < length bytes → is_ascii_alphabetic (head bytes) ≡ true → len ≡ prefix_len is_word bytes
    → Some (word_mark (take len bytes), len) ≡ option_map seen (first bytes)
unfolding first
a_word [] len some letter count = absurd (omega arith)
a_word (b ∷ bs) len some letter count =
    ap (λ n. Some (word_mark (take n (b ∷ bs)), n)) count
    ∙ ap (λ n. Some (word_mark (take_while is_word (b ∷ bs)), n)) (sym (length-prefix_len is_word (b ∷ bs)))
    ∙ sym (ap (option_map seen) (cond-true _ _ _ letter))

pub a_number : (bytes : List ℕ) (len : ℕ) → 0 < length bytes → is_ascii_digit (head bytes) ≡ true → len ≡ prefix_len is_ascii_digit bytes
    → Some (mark_of (integer (number_of false (take len bytes))), len) ≡ option_map seen (first bytes)
unfolding first
a_number [] len some digit count = absurd (omega arith)
a_number (b ∷ bs) len some digit count =
    ap (λ n. Some (mark_of (integer (number_of false (take n (b ∷ bs)))), n)) count
    ∙ ap (λ n. Some (mark_of (integer (number_of false (take_while is_ascii_digit (b ∷ bs)))), n)) (sym (length-prefix_len is_ascii_digit (b ∷ bs)))
    ∙ sym (ap (option_map seen) (cond-false _ _ _ (digit_no_letter b digit) ∙ cond-true _ _ _ digit))

pub a_minus : (bytes rest : List ℕ) → 0 < length bytes → head bytes ≡ 45 → rest ≡ drop 1 bytes
    → Some (seen (minus_lexeme (take_while is_ascii_digit rest))) ≡ option_map seen (first bytes)
unfolding first
a_minus [] rest some is tail = absurd (omega arith)
a_minus (b ∷ bs) rest some is tail =
    ap (λ r. Some (seen (minus_lexeme (take_while is_ascii_digit r)))) tail
    ∙ subst (λ c. Some (seen (minus_lexeme (take_while is_ascii_digit bs))) ≡ option_map seen (first (c ∷ bs))) (sym is) refl

-- a byte that is no sign is no mark
no_sign : (b : ℕ) → is_sign b ≡ false → sign_mark b ≡ Other
no_sign b h = grind (arith, nat_tests)

pub a_sign : (bytes : List ℕ) → 0 < length bytes → is_ascii_alphabetic (head bytes) ≡ false → is_ascii_digit (head bytes) ≡ false → (head bytes ≡ 45 → ⊥)
    → Some (sign_mark (head bytes), 1) ≡ option_map seen (first bytes)
unfolding first
a_sign [] some letter digit minus = absurd (omega arith)
a_sign (b ∷ bs) some letter digit minus = sym (ap (option_map seen) (cond-false _ _ _ letter ∙ cond-false _ _ _ digit ∙ cond-false _ _ _ (not_minus (eqb b 45) refl)) ∙ by_sign (is_sign b) refl)
  where
    not_minus : (t : Bool) → eqb b 45 ≡ t → eqb b 45 ≡ false
    not_minus true e = absurd (minus (eqb-true b 45 e))
    not_minus false e = e

    by_sign : (t : Bool) → is_sign b ≡ t → option_map seen (cond (is_sign b) (Some (sign b, 1)) (Some (bad, 1))) ≡ Some (sign_mark b, 1)
    by_sign true e = ap (option_map seen) (cond-true _ _ _ e)
    by_sign false e = ap (option_map seen) (cond-false _ _ _ e) ∙ ap (λ m. Some (m, 1)) (sym (no_sign b e))

-- digits pass
pub digits_pass : (bytes : List ℕ) (len : ℕ) → len ≡ prefix_len is_ascii_digit bytes → AllByRecursion (λ c. IsTrue (is_ascii_digit c)) (take len bytes)
digits_pass bytes len count = subst (λ n. AllByRecursion (λ c. IsTrue (is_ascii_digit c)) (take n bytes)) (sym count) (prefix_passes is_ascii_digit bytes)
