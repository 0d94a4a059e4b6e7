-- Tables of texts, each with its kind of token.
use Rattle.std.specs.Prelude.{ℕ, List, [], ◌∷◌, Option, Some, None, if◌then◌else◌}
use Rattle.std.specs.Str.{bytes_eq}
use Rattle.snesl_grammar.specs.declared.lexer.token.TokenKind.{TokenKind}

-- the kind beside a text, if the text stands in the table
abbrev pub kind_in : List (List ℕ × TokenKind) → List ℕ → Option TokenKind
kind_in [] text = None
kind_in (row ∷ rows) text = if bytes_eq text row.0 then Some row.1 else kind_in rows text
