-- Each text has one reading, and names its dialect with its first tokens.
use Rattle.std.specs.Prelude.{◌≡◌, ℕ, List, map, take, Result, Ok, Err}
use Rattle.snesl_grammar.specs.declared.lexer.token.Token.{Token}
use Rattle.snesl_grammar.specs.lexer.Lexical.{dialect_named, dialect_of, Tokens, BadAt}

-- in the dialect that it names a text reads as these tokens, or it has its first bad byte at this offset
abbrev pub Reads : List ℕ → Result (List Token) ℕ → Type 0
Reads text (Ok tokens) = Tokens (dialect_of text) 0 text tokens
Reads text (Err at) = BadAt (dialect_of text) 0 text at

-- each text reads in one way, and in no other
abbrev pub HaveOneReading : Type 0
HaveOneReading =
    (text : List ℕ) → (reading : Result (List Token) ℕ)
    × Reads text reading
    × ((other : Result (List Token) ℕ) → Reads text other → other ≡ reading)

-- the first three tokens of a text name the dialect that they were read in
abbrev pub TokensNameTheirDialect : Type 0
TokensNameTheirDialect =
    (text : List ℕ) (tokens : List Token) → Tokens (dialect_of text) 0 text tokens
    → dialect_named (map (λ (t : Token). t.kind) (take 3 tokens)) ≡ dialect_of text
