-- The layout of a program.
use Rattle.std.specs.Prelude.{◌≡◌, ◌<◌, ◌+◌, ℕ, List, [], ◌∷◌, drop, length, Ok, Err}
use Rattle.snesl_data.specs.declared.refusal.Refusal.TheVariants.{NoMemory}
use Rattle.snesl_grammar.specs.tree.Tree.{ProgramTree}
use Rattle.snesl_grammar.specs.Limits.{greatest_length}
use Rattle.snesl_syntax.specs.Parse.{IsRight, Parses}
use Rattle.snesl_layout.specs.declared.laid.LayoutError.{LayoutError}
use Rattle.snesl_layout.specs.declared.laid.LayoutError.TheVariants.{Refused, TooLong, Differs}
use Rattle.snesl_grammar.specs.declared.lexer.token.Token.{Token}
use Rattle.snesl_grammar.specs.lexer.Lexical.{dialect_of, Tokens}
use Rattle.snesl_layout.specs.Spacing.{token_bytes}
use Rattle.snesl_layout.specs.Layout.{layout}

-- the words of tokens: the bytes of each, in order
abbrev pub words : List ℕ → List Token → List (List ℕ)
words text [] = []
words text (token ∷ after) = token_bytes text token after ∷ words text after

-- the word of token i: the first of those from there on
abbrev pub IsWordAt : (text : List ℕ) → List Token → (i : ℕ) → (word : List ℕ) → Type 0
IsWordAt text tokens i word = words text (drop i tokens) ≡ word ∷ words text (drop (i + 1) tokens)

-- a text keeps the words of these tokens of another, and is laid out as it stands
pub record KeepsWords (text : List ℕ) (tokens : List Token) (out : List ℕ) : Type 0 where
  pub others : List Token
  pub are_tokens : Tokens (dialect_of out) 0 out others
  pub same : words text tokens ≡ words out others
  pub again : out ≡ layout out others

-- the bytes are the layout of the text: that of its tokens, which keeps their words, and whose layout are these bytes again
pub record IsLaidOut (text out : List ℕ) : Type 0 where
  pub tokens : List Token
  pub are_tokens : Tokens (dialect_of text) 0 text tokens
  pub laid : out ≡ layout text tokens
  pub kept : KeepsWords text tokens out

-- the bytes are a program
abbrev pub IsParsed : List ℕ → Type 0
IsParsed out = (program : ProgramTree) × Parses out (Ok program)

-- why a text has no layout: it is refused as parsing refuses it, unless memory was; or the layout of its tokens is too long; or nothing
-- is said
abbrev pub IsUnlaid : List ℕ → LayoutError → Type 0
IsUnlaid text (Refused refusal) = IsRight (Parses text) (Err refusal)
IsUnlaid text TooLong = (tokens : List Token) × Tokens (dialect_of text) 0 text tokens × (greatest_length < length (layout text tokens))
IsUnlaid text Differs = Unit {0}

-- why a layout was not found to be a program: it is too long, or memory was refused, or nothing is said
abbrev pub IsOfLayout : List ℕ → LayoutError → Type 0
IsOfLayout out (Refused refusal) = refusal ≡ NoMemory
IsOfLayout out TooLong = greatest_length < length out
IsOfLayout out Differs = Unit {0}
