-- Tokens as a scanner sees them, and where they begin.
use Rattle.std.specs.Prelude.{ℕ, zero, suc, ◌+◌, ◌-◌, ◌==◌, true, false, List, [], ◌∷◌, length, Option, Some, None, cond, codes}
use Rattle.std.specs.Str.{bytes_eq}
use Rattle.snesl_data.specs.declared.dialect.Dialect.TheVariants.{Two}
use Rattle.snesl_data.specs.Integers.{is_integer}
use Rattle.snesl_values.specs.InputTokens.{Token, word, integer, sign, bad, SizedToken, next_at, next_lexeme}
use Rattle.snesl_values.specs.declared.marks.Bracket.TheVariants.{Round, Square, Curly}
use Rattle.snesl_values.specs.declared.marks.Found.{Found}
use Rattle.snesl_values.specs.declared.marks.Mark.{Mark}
use Rattle.snesl_values.specs.declared.marks.Mark.TheVariants.{Truth, Number, Open, Close, Comma, Other}

-- the mark of a sign
abbrev pub sign_mark : ℕ → Mark
sign_mark b =
    cond (b == 40) (Open Round) (cond (b == 41) (Close Round) (cond (b == 91) (Open Square) (cond (b == 93) (Close Square)
    (cond (b == 123) (Open Curly) (cond (b == 125) (Close Curly) (cond (b == 44) Comma Other))))))

-- the mark of a word
abbrev pub word_mark : List ℕ → Mark
word_mark letters = cond (bytes_eq letters (codes "true")) (Truth true) (cond (bytes_eq letters (codes "false")) (Truth false) Other)

-- the mark of a token
abbrev pub mark_of : Token → Mark
mark_of (word letters) = word_mark letters
mark_of (integer n) = cond (is_integer Two n) (Number n) Other
mark_of (sign b) = sign_mark b
mark_of bad = Other

-- the mark of a token, and its length
abbrev pub sized_mark : SizedToken → Mark × ℕ
sized_mark lexeme = (mark_of lexeme.0, lexeme.1)

-- a mark and the offset from which its token was looked for
abbrev pub Spot : Type 0
Spot = Mark × ℕ

-- the mark of a token that begins at this offset, if there is one, and the offset after it
abbrev pub found_from : ℕ → Option SizedToken → Option Found
found_from start None = None
found_from start (Some lexeme) = Some (record { mark = mark_of lexeme.0; end = start + lexeme.1 })

-- the token that comes next, if one does, and then those that `behind` gives from its end on
abbrev pub spots_by : (ℕ → List Spot) → List ℕ → ℕ → Option SizedToken → List Spot
spots_by behind text at None = []
spots_by behind text at (Some lexeme) = (mark_of lexeme.0, at) ∷ behind (next_at text at + lexeme.1)

-- the tokens from an offset on, so many at most
abbrev pub spots_in : ℕ → List ℕ → ℕ → List Spot
spots_in zero text at = []
spots_in (suc most) text at = spots_by (spots_in most text) text at (next_lexeme text at)

-- all tokens from an offset on, of which each takes a byte at least
unfoldable pub spots : List ℕ → ℕ → List Spot
spots text at = spots_in (length text - at) text at
