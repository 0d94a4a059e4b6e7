-- The table of lexemes, and the rule of the longest one.
use Rattle.std.specs.Prelude.{◌≡◌, ℕ, pos, ◌≤◌, ◌<◌, List, [], ◌∷◌, length, take, Some, IsTrue, ◌⊎◌, ◌↔◌}
use Rattle.std.specs.List.{list_all}
use Rattle.std.specs.Char.{is_ascii_digit, is_ascii_alphabetic}
use Rattle.snesl_data.specs.declared.dialect.Dialect.{Dialect}
use Rattle.snesl_data.specs.Integers.{greatest_integer}
use Rattle.snesl_grammar.specs.declared.lexer.token.TokenKind.{TokenKind}
use Rattle.snesl_grammar.specs.declared.lexer.token.TokenKind.TheVariants.{Integer}
use Rattle.snesl_grammar.specs.declared.lexer.lexer.Foremost.{Foremost}
use Rattle.snesl_grammar.specs.declared.lexer.lexer.Foremost.TheVariants.{Blank, Found, Bad}
use Rattle.snesl_grammar.specs.lexer.Tables.{kind_in}
use Rattle.snesl_grammar.specs.lexer.Words.{word_kind}
use Rattle.snesl_grammar.specs.lexer.Signs.{one_byte_signs, two_byte_signs}
use Rattle.snesl_data.specs.Blanks.{is_blank}
use Rattle.snesl_data.specs.Characters.{is_word, value_from}
use Rattle.snesl_grammar.specs.lexer.Lexical.{first}

-- a letter, and then letters, digits and `_`
abbrev pub IsWord : List ℕ → Type 0
IsWord [] = ⊥
IsWord (b ∷ bs) = IsTrue (is_ascii_alphabetic b) × IsTrue (list_all is_word bs)

-- digits, and at least one
abbrev pub IsDigits : List ℕ → Type 0
IsDigits [] = ⊥
IsDigits (b ∷ bs) = IsTrue (list_all is_ascii_digit (b ∷ bs))

-- what a lexeme stands for: a token, or an integer over the limit of the dialect
pub data LexemeMeaning : Type 0 where
  token : TokenKind → LexemeMeaning
  too_great : LexemeMeaning

-- The table of lexemes: a text, and what it stands for.
pub data Lexeme (dialect : Dialect) : List ℕ → LexemeMeaning → Type 0 where
  -- a word: the reserved word of that text, or else a name
  a_word : {text : List ℕ} → IsWord text → Lexeme dialect text (token (word_kind text))
  -- digits: their integer
  an_integer : {text : List ℕ} → IsDigits text → value_from 0 text ≤ greatest_integer dialect
      → Lexeme dialect text (token (Integer (pos (value_from 0 text))))
  -- digits of an integer over the limit
  an_excess : {text : List ℕ} → IsDigits text → greatest_integer dialect < value_from 0 text → Lexeme dialect text too_great
  -- a sign of one byte, by its table
  a_sign : {text : List ℕ} {kind : TokenKind} → kind_in one_byte_signs text ≡ Some kind → Lexeme dialect text (token kind)
  -- a sign of two bytes, by its table
  a_long_sign : {text : List ℕ} {kind : TokenKind} → kind_in two_byte_signs text ≡ Some kind → Lexeme dialect text (token kind)

-- the longest lexeme that the bytes begin with has this length and this meaning
pub record IsLongest (dialect : Dialect) (bytes : List ℕ) (len : ℕ) (meaning : LexemeMeaning) : Type 0 where
  pub within : len ≤ length bytes
  pub reads : Lexeme dialect (take len bytes) meaning
  pub no_longer : (n : ℕ) (other : LexemeMeaning) → len < n → n ≤ length bytes → ¬ Lexeme dialect (take n bytes) other

-- the bytes begin with no lexeme
abbrev pub BeginsWithNone : Dialect → List ℕ → Type 0
BeginsWithNone dialect bytes = (n : ℕ) (meaning : LexemeMeaning) → ¬ Lexeme dialect (take n bytes) meaning

-- the bytes begin with a blank
abbrev pub BeginsWithBlank : List ℕ → Type 0
BeginsWithBlank [] = ⊥
BeginsWithBlank (b ∷ bs) = IsTrue (is_blank b)

-- what stands first in bytes, by the table: a blank, the longest lexeme, or nothing lawful
abbrev pub StandsFirst : Dialect → List ℕ → Foremost → Type 0
StandsFirst dialect bytes Blank = BeginsWithBlank bytes × BeginsWithNone dialect bytes
StandsFirst dialect bytes (Found kind len) = IsLongest dialect bytes len (token kind)
StandsFirst dialect bytes Bad =
    ((¬ BeginsWithBlank bytes) × BeginsWithNone dialect bytes) ⊎ ((len : ℕ) × IsLongest dialect bytes len too_great)

-- what the lexer finds first is what stands first by the table, and nothing else does
abbrev pub FirstIsLongest : Type 0
FirstIsLongest = (dialect : Dialect) (bytes : List ℕ) (found : Foremost) → (first dialect bytes ≡ found) ↔ StandsFirst dialect bytes found
