-- What a program may go on with.
use Rattle.std.specs.Prelude.{ℕ, ◌++◌, ◌⊎◌, List, Ok, Err, codes, length, take}
use Rattle.snesl_data.specs.declared.refusal.Refusal.TheVariants.{Syntax}
use Rattle.snesl_grammar.specs.tree.Tree.{ProgramTree}
use Rattle.snesl_syntax.specs.Parse.{Parses}
use Rattle.snesl_advice.specs.declared.following.Follower.{Follower}
use Rattle.snesl_advice.specs.declared.following.Follower.TheVariants as next

-- the text is a program, or begins one: all its tokens begin a program within the limits
abbrev pub IsOrBeginsProgram : List ℕ → Type 0
IsOrBeginsProgram text = ((tree : ProgramTree) × Parses text (Ok tree)) ⊎ Parses text (Err (Syntax (length text)))

-- what stands in the program before an offset goes on with this word
abbrev pub GoesOnWith : (program : List ℕ) → (at : ℕ) → (word : List ℕ) → Type 0
GoesOnWith program at word = IsOrBeginsProgram (take at program ++ codes " " ++ word)

-- a word of the language that such a thing may be
abbrev pub sample : Follower → List ℕ
sample next.In = codes "in"
sample next.Then = codes "then"
sample next.Else = codes "else"
sample next.ClosingParenthesis = codes ")"
sample next.ClosingBrace = codes "}"
sample next.ClosingBracket = codes "]"
sample next.OpeningParenthesis = codes "("
sample next.Equals = codes "="
sample next.Colon = codes ":"
sample next.Comma = codes ","
sample next.Semicolon = codes ";"
sample next.Bar = codes "|"
sample next.Name = codes "x"
sample next.Type = codes "int"
sample next.Value = codes "1"
sample next.Operator = codes "+"

-- how a person is told of it
abbrev pub phrase : Follower → List ℕ
phrase next.In = codes "`in`"
phrase next.Then = codes "`then`"
phrase next.Else = codes "`else`"
phrase next.ClosingParenthesis = codes "`)`"
phrase next.ClosingBrace = codes "`}`"
phrase next.ClosingBracket = codes "`]`"
phrase next.OpeningParenthesis = codes "`(`"
phrase next.Equals = codes "`=`"
phrase next.Colon = codes "`:`"
phrase next.Comma = codes "`,`"
phrase next.Semicolon = codes "`;`"
phrase next.Bar = codes "`|`"
phrase next.Name = codes "a name"
phrase next.Type = codes "a type"
phrase next.Value = codes "a value"
phrase next.Operator = codes "an operator"
