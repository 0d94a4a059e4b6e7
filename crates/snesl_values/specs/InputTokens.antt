-- The tokens of an input text.
use Rattle.std.specs.Prelude.{◌≡◌, ℕ, zero, suc, ◌+◌, ◌==◌, ◌<◌, ◌≤◌, ℤ, pos, negsuc, Bool, true, false, IsTrue, nat_le, if◌then◌else◌}
use Rattle.std.specs.Prelude.{List, [], ◌∷◌, length, drop, Option, Some, None, option_map, codes}
use Rattle.std.specs.List.{AllByRecursion, take_while, prefix_len, list_any}
use Rattle.std.specs.Char.{is_ascii_digit, is_ascii_alphabetic}
use Rattle.snesl_data.specs.Blanks.{is_blank}
use Rattle.snesl_data.specs.Characters.{is_word, value_from}
use Rattle.snesl_data.specs.declared.dialect.Dialect.{Dialect}
use Rattle.snesl_data.specs.declared.dialect.Dialect.TheVariants.{Two}
use Rattle.snesl_data.specs.Integers.{IsInteger, is_integer, greatest_integer}

-- a word, an integer, a sign of one byte, or a token that no lawful text has
pub data Token : Type 0 where
  word : List ℕ → Token
  integer : ℤ → Token
  sign : ℕ → Token
  bad : Token

-- a token and its length in bytes
abbrev pub SizedToken : Type 0
SizedToken = Token × ℕ

-- the signs, of one byte each
abbrev pub is_sign : ℕ → Bool
is_sign b = list_any (λ c. c == b) (codes "=;,()[]{}")

-- the integer that a number writes after a minus
abbrev pub negated : ℕ → ℤ
negated zero = pos 0
negated (suc n) = negsuc n

-- the integer of this sign and magnitude
abbrev pub signed : Bool → ℕ → ℤ
signed false n = pos n
signed true n = negated n

-- a minus with the digits after it, at least one
abbrev pub minus_lexeme : List ℕ → SizedToken
minus_lexeme [] = (bad, 1)
minus_lexeme digits = (integer (negated (value_from 0 digits)), suc (length digits))

-- the longest token that stands first in bytes, where no blank does; in no bytes stands none
unfoldable pub first : List ℕ → Option SizedToken
first [] = None
first (b ∷ bs) =
    if is_ascii_alphabetic b then (let letters = take_while is_word (b ∷ bs) in Some (word letters, length letters)) else
    (if is_ascii_digit b then (let digits = take_while is_ascii_digit (b ∷ bs) in Some (integer (pos (value_from 0 digits)), length digits)) else
    (if b == 45 then Some (minus_lexeme (take_while is_ascii_digit bs)) else
    (if is_sign b then Some (sign b, 1) else Some (bad, 1))))

-- the offset of the first byte from here on that is no blank, or the text's length where there is none
unfoldable pub next_at : List ℕ → ℕ → ℕ
next_at text at = at + prefix_len is_blank (drop at text)

-- the token that comes next from an offset on
unfoldable pub next_lexeme : List ℕ → ℕ → Option SizedToken
next_lexeme text at = first (drop (next_at text at) text)

-- the same without its length
abbrev pub next_token : List ℕ → ℕ → Option Token
next_token text at = option_map (λ (lexeme : SizedToken). lexeme.0) (next_lexeme text at)

-- these are the tokens of a text from one offset to another, with blanks before each
pub data HasTokens (text : List ℕ) : ℕ → List Token → ℕ → Type 0 where
  -- no tokens
  none : {at : ℕ} → HasTokens text at [] at
  -- a token, and then tokens
  more : {at end : ℕ} {tokens : List Token} (token : Token) (len : ℕ) → next_lexeme text at ≡ Some (token, len)
      → HasTokens text (next_at text at + len) tokens end → HasTokens text at (token ∷ tokens) end

-- the next token is this one, and ends before this offset
pub record IsNextToken (text : List ℕ) (at : ℕ) (token : Token) (end : ℕ) : Type 0 where
  pub reads : HasTokens text at (token ∷ []) end
  pub moves : at < end
  pub within : end ≤ length text

-- the next token is this integer of the dialect, and ends before this offset
abbrev pub IsNextInteger : Dialect → List ℕ → ℕ → ℤ × ℕ → Type 0
IsNextInteger dialect text at found = IsNextToken text at (integer found.0) found.1 × IsInteger dialect found.0

-- the next token is no integer of the dialect
abbrev pub IsNoInteger : Dialect → List ℕ → ℕ → Type 0
IsNoInteger dialect text at = (n : ℤ) → IsInteger dialect n → ¬ (next_token text at ≡ Some (integer n))

-- the integer, where it is in the range of the dialect
abbrev pub integer_in : Dialect → ℤ → Option ℤ
integer_in dialect n = if is_integer dialect n then Some n else None

-- the number, where it is not over the greatest magnitude of the wider dialect
abbrev pub magnitude_of : ℕ → Option ℕ
magnitude_of number = if nat_le number (suc (greatest_integer Two)) then Some number else None

-- all bytes are digits
abbrev pub AreDigits : List ℕ → Type 0
AreDigits bytes = AllByRecursion (λ c. IsTrue (is_ascii_digit c)) bytes

-- the digits from an offset on
abbrev pub digits_at : List ℕ → ℕ → List ℕ
digits_at text from = take_while is_ascii_digit (drop from text)

-- the integer that digits write with this sign
abbrev pub number_of : Bool → List ℕ → ℤ
number_of is_negative digits = signed is_negative (value_from 0 digits)

-- there are digits, and they write an integer of the dialect
abbrev pub WritesInteger : Dialect → Bool → List ℕ → Type 0
WritesInteger dialect is_negative digits = (0 < length digits) × IsInteger dialect (number_of is_negative digits)

-- some digits write this integer, in the range of the dialect, and end before this offset
pub record IsNumber (dialect : Dialect) (text : List ℕ) (from : ℕ) (is_negative : Bool) (found : ℤ × ℕ) : Type 0 where
  pub some : 0 < length (digits_at text from)
  pub value : found.0 ≡ number_of is_negative (digits_at text from)
  pub in_range : IsInteger dialect found.0
  pub end : found.1 ≡ from + length (digits_at text from)
