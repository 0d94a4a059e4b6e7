-- Which tokens the bytes of a text are.
use Rattle.std.specs.Prelude.{◌≡◌, ℕ, zero, suc, pos, ◌+◌, ◌<◌, ◌≤◌, List, [], ◌∷◌, length, drop, Option, Some, None, if◌then◌else◌, nat_le, ◌==◌}
use Rattle.std.specs.List.{take_while, prefix_len}
use Rattle.std.specs.Char.{is_ascii_digit, is_ascii_alphabetic}
use Rattle.snesl_grammar.specs.declared.lexer.token.TokenKind.{TokenKind}
use Rattle.snesl_grammar.specs.declared.lexer.token.TokenKind.TheVariants as kinds
use Rattle.snesl_grammar.specs.declared.lexer.token.Token.{Token}
use Rattle.snesl_grammar.specs.declared.lexer.lexer.Foremost.{Foremost}
use Rattle.snesl_grammar.specs.declared.lexer.lexer.Foremost.TheVariants.{Blank, Found, Bad}
use Rattle.snesl_data.specs.declared.dialect.Dialect.{Dialect}
use Rattle.snesl_data.specs.declared.dialect.Dialect.TheVariants.{One, Two}
use Rattle.snesl_data.specs.declared.refusal.Refusal.{Refusal}
use Rattle.snesl_data.specs.declared.refusal.Refusal.TheVariants as refusals
use Rattle.snesl_data.specs.Integers.{greatest_integer}
use Rattle.snesl_data.specs.Blanks.{is_blank}
use Rattle.snesl_data.specs.Characters.{is_word, value_from}
use Rattle.snesl_grammar.specs.lexer.Words.{word_kind}
use Rattle.snesl_grammar.specs.lexer.Signs.{sign_token}

-- the token of these digits: their integer, or bad where it is over the limit of the dialect
abbrev pub number : Dialect → List ℕ → Foremost
number dialect cs =
    if nat_le (value_from 0 cs) (greatest_integer dialect) then Found (kinds.Integer (pos (value_from 0 cs))) (length cs) else Bad

-- the first byte, or 0 where there is none
abbrev pub head_or : List ℕ → ℕ
head_or [] = 0
head_or (b ∷ bs) = b

-- what stands first: a blank, a word, an integer or a sign
abbrev pub first : Dialect → List ℕ → Foremost
first dialect [] = Bad
first dialect (b ∷ bs) =
    if is_blank b then Blank else
    (if is_ascii_alphabetic b then (let word = take_while is_word (b ∷ bs) in Found (word_kind word) (length word)) else
    (if is_ascii_digit b then number dialect (take_while is_ascii_digit (b ∷ bs)) else
    sign_token b (head_or bs)))

-- the bytes after blanks
abbrev pub after_blanks : List ℕ → List ℕ
after_blanks bs = drop (prefix_len is_blank bs) bs

-- the kind of this token where one was found, and the bytes after it
abbrev pub kind_found : List ℕ → Foremost → Option (TokenKind × List ℕ)
kind_found bs (Found kind len) = Some (kind, drop len bs)
kind_found bs _ = None

-- the kind of the token that comes next after blanks, and the bytes after it; the first dialect reads it
abbrev pub next_kind : List ℕ → Option (TokenKind × List ℕ)
next_kind bs = kind_found (after_blanks bs) (first One (after_blanks bs))

-- this kind, and then those of the bytes after it
abbrev pub kinds_from : Option (TokenKind × List ℕ) → (List ℕ → List TokenKind) → List TokenKind
kinds_from None more = []
kinds_from (Some (kind, rest)) more = kind ∷ more rest

-- the kinds of the first tokens of bytes, at most so many
abbrev pub first_kinds : ℕ → List ℕ → List TokenKind
first_kinds zero bs = []
first_kinds (suc n) bs = kinds_from (next_kind bs) (first_kinds n)

-- the dialect that these kinds name: `dialect`, 2 and `;` name the second
abbrev pub dialect_named : List TokenKind → Dialect
dialect_named (kinds.Dialect ∷ kinds.Integer (pos number) ∷ kinds.Semicolon ∷ []) = if number == 2 then Two else One
dialect_named _ = One

-- the dialect that a text names with its first three tokens
abbrev pub dialect_of : List ℕ → Dialect
dialect_of text = dialect_named (first_kinds 3 text)

-- The tokens of bytes that begin at this offset.
pub data Tokens (dialect : Dialect) : ℕ → List ℕ → List Token → Type 0 where
  -- no bytes are no tokens
  none_left : {at : ℕ} → Tokens dialect at [] []
  -- a blank is skipped
  skips : {at : ℕ} {bs : List ℕ} {ts : List Token} → first dialect bs ≡ Blank → Tokens dialect (at + 1) (drop 1 bs) ts → Tokens dialect at bs ts
  -- a token is taken, with the offset of its first byte
  takes : {at : ℕ} {bs : List ℕ} {ts : List Token} (k : TokenKind) (len : ℕ) → first dialect bs ≡ Found k len
      → Tokens dialect (at + len) (drop len bs) ts → Tokens dialect at bs (record { kind = k; at = at } ∷ ts)

-- The offset of the first bad byte of bytes that begin at this offset.
pub data BadAt (dialect : Dialect) : ℕ → List ℕ → ℕ → Type 0 where
  -- nothing lawful stands first
  bad_here : {at : ℕ} (b : ℕ) (bs : List ℕ) → first dialect (b ∷ bs) ≡ Bad → BadAt dialect at (b ∷ bs) at
  -- it stands after a blank
  bad_later : {at n : ℕ} {bs : List ℕ} → first dialect bs ≡ Blank → BadAt dialect (at + 1) (drop 1 bs) n → BadAt dialect at bs n
  -- it stands after a token
  bad_after : {at n : ℕ} {bs : List ℕ} (k : TokenKind) (len : ℕ) → first dialect bs ≡ Found k len
      → BadAt dialect (at + len) (drop len bs) n → BadAt dialect at bs n

-- a token, if one was found, has at least one byte and at most this many
abbrev pub IsTokenWithin : ℕ → Foremost → Type 0
IsTokenWithin n (Found k len) = (0 < len) × (len ≤ n)
IsTokenWithin n _ = Unit {0}

-- a lawful refusal of bytes that begin at this offset: memory ran out, or it names the first bad byte
abbrev pub IsBadOf : Dialect → ℕ → List ℕ → Refusal → Type 0
IsBadOf dialect at bs refusals.NoMemory = Unit {0}
IsBadOf dialect at bs (refusals.Lex n) = BadAt dialect at bs n
IsBadOf dialect at bs _ = ⊥
