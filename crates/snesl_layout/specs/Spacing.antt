-- What stands between two tokens of a line.
use Rattle.std.specs.Prelude.{ℕ, suc, ◌-◌, Bool, true, false, not, ◌||◌, nat_lt, if◌then◌else◌, List, [], ◌∷◌, length, take, drop}
use Rattle.std.specs.List.{take_while}
use Rattle.snesl_data.specs.Blanks.{is_blank}
use Rattle.snesl_grammar.specs.declared.lexer.token.TokenKind.{TokenKind}
use Rattle.snesl_grammar.specs.declared.lexer.token.TokenKind.TheVariants.{Integer, Name, True, False, Iota, ScanAdd, ReduceAdd, ReduceMax, ReduceAnd}
use Rattle.snesl_grammar.specs.declared.lexer.token.TokenKind.TheVariants.{ReduceOr, Length, Concat, Part, The, Tab, Seq, Fst, Snd, LeftParen, RightParen}
use Rattle.snesl_grammar.specs.declared.lexer.token.TokenKind.TheVariants.{LeftBrace, RightBrace, LeftBracket, RightBracket, Comma, Semicolon, Minus}
use Rattle.snesl_grammar.specs.declared.lexer.token.Token.{Token}

-- a bracket opens
abbrev pub opens : TokenKind → Bool
opens LeftParen = true
opens LeftBracket = true
opens LeftBrace = true
opens _ = false

-- a bracket closes
abbrev pub closes : TokenKind → Bool
closes RightParen = true
closes RightBracket = true
closes RightBrace = true
closes _ = false

-- one more of what is counted up to 64, as deep as programs are
abbrev pub deeper : ℕ → ℕ
deeper depth = if nat_lt depth 64 then suc depth else depth

-- how many brackets are open after a token of this kind
abbrev pub depth_after : ℕ → TokenKind → ℕ
depth_after depth kind = if opens kind then deeper depth else if closes kind then depth - 1 else depth

-- an expression may end with the token, so that `-` behind it has two operands
abbrev pub ends_operand : TokenKind → Bool
ends_operand (Integer value) = true
ends_operand (Name len) = true
ends_operand True = true
ends_operand False = true
ends_operand kind = closes kind

-- the name of a function, where `(` follows: a name, or the word of a built-in function
abbrev pub names_function : TokenKind → Bool
names_function (Name len) = true
names_function Iota = true
names_function ScanAdd = true
names_function ReduceAdd = true
names_function ReduceMax = true
names_function ReduceAnd = true
names_function ReduceOr = true
names_function Length = true
names_function Concat = true
names_function Part = true
names_function The = true
names_function Tab = true
names_function Seq = true
names_function Fst = true
names_function Snd = true
names_function _ = false

-- the last token is a `-` with one operand, since no operand ends with the token before it
abbrev pub is_prefix_minus : (before last : TokenKind) → Bool
is_prefix_minus before Minus = not (ends_operand before)
is_prefix_minus before _ = false

-- nothing stands before this token: `,` and `;`, and `(` behind the name of a function
abbrev pub is_joined : (last next : TokenKind) → Bool
is_joined last Comma = true
is_joined last Semicolon = true
is_joined last LeftParen = names_function last
is_joined last _ = false

-- nothing stands between the last token and the next: nor behind an opening bracket or the `-` of one operand, nor before a closing one
abbrev pub is_glued : (before last next : TokenKind) → Bool
is_glued before last next = opens last || closes next || is_prefix_minus before last || is_joined last next

-- where the next token begins, or the text ends
abbrev pub next_at : List ℕ → List Token → ℕ
next_at text [] = length text
next_at text (next ∷ after) = next.at

-- no blank
abbrev pub is_printed : ℕ → Bool
is_printed b = not (is_blank b)

-- the bytes of a token before others: up to the next one or to a blank
abbrev pub token_bytes : List ℕ → Token → List Token → List ℕ
token_bytes text token after = take_while is_printed (drop token.at (take (next_at text after) text))
