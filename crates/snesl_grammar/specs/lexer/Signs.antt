-- The signs.
use Rattle.std.specs.Prelude.{ℕ, List, [], ◌∷◌, Option, Some, None}
use lib.Chars.{codes}
use Rattle.snesl_grammar.specs.lexer.Tables.{kind_in}
use Rattle.snesl_grammar.specs.declared.lexer.token.TokenKind.{TokenKind}
use Rattle.snesl_grammar.specs.declared.lexer.token.TokenKind.TheVariants as kinds
use Rattle.snesl_grammar.specs.declared.lexer.lexer.Foremost.{Foremost}
use Rattle.snesl_grammar.specs.declared.lexer.lexer.Foremost.TheVariants.{Found, Bad}

-- the signs of two bytes
abbrev pub two_byte_signs : List (List ℕ × TokenKind)
two_byte_signs =
    (codes "==", kinds.Same) ∷
    (codes "<=", kinds.AtMost) ∷
    (codes ">=", kinds.AtLeast) ∷
    (codes "++", kinds.Append) ∷
    []

-- the signs of one byte
abbrev pub one_byte_signs : List (List ℕ × TokenKind)
one_byte_signs =
    (codes "(", kinds.LeftParen) ∷
    (codes ")", kinds.RightParen) ∷
    (codes "{", kinds.LeftBrace) ∷
    (codes "}", kinds.RightBrace) ∷
    (codes "[", kinds.LeftBracket) ∷
    (codes "]", kinds.RightBracket) ∷
    (codes ":", kinds.Colon) ∷
    (codes ";", kinds.Semicolon) ∷
    (codes ",", kinds.Comma) ∷
    (codes "|", kinds.Bar) ∷
    (codes "=", kinds.Equals) ∷
    (codes "<", kinds.Less) ∷
    (codes ">", kinds.Greater) ∷
    (codes "+", kinds.Plus) ∷
    (codes "-", kinds.Minus) ∷
    (codes "*", kinds.Star) ∷
    (codes "/", kinds.Slash) ∷
    (codes "%", kinds.Percent) ∷
    (codes "!", kinds.At) ∷
    []

-- the longer of two signs, the one of two bytes and the one of one
abbrev pub longer_sign : Option TokenKind → Option TokenKind → Foremost
longer_sign (Some kind) _ = Found kind 2
longer_sign None (Some kind) = Found kind 1
longer_sign None None = Bad

-- the token of a sign, by its first byte and the byte after it
abbrev pub sign_token : ℕ → ℕ → Foremost
sign_token b next = longer_sign (kind_in two_byte_signs (b ∷ next ∷ [])) (kind_in one_byte_signs (b ∷ []))
