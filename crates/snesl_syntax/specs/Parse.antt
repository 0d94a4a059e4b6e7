-- What parsing answers.
use Rattle.std.specs.Prelude.{◌≡◌, ◌↔◌, ℕ, ◌≤◌, ◌<◌, List, [], ◌∷◌, ◌++◌, length, Result, Ok, Err}
use Rattle.snesl_data.specs.declared.refusal.Refusal.{Refusal}
use Rattle.snesl_data.specs.declared.refusal.Refusal.TheVariants.{TooLong, Lex, Syntax, Deep, NoMemory}
use Rattle.snesl_grammar.specs.declared.lexer.token.Token.{Token}
use Rattle.snesl_grammar.specs.lexer.Lexical.{dialect_of, Tokens, BadAt}
use Rattle.snesl_grammar.specs.declared.program.Program.{Program}
use Rattle.snesl_grammar.specs.tree.Tree.{ProgramTree}
use Rattle.snesl_grammar.specs.View.{program_of}
use Rattle.snesl_grammar.specs.Limits.{greatest_length, greatest_depth}
use Rattle.snesl_grammar.specs.Programs.{WholeProgram, FrontProgram, program_depth}

-- a program within the depth begins with the tokens
abbrev pub BeginsProgram : ℕ → List Token → Type 0
BeginsProgram deep ts = (rest : List Token) × (program : ProgramTree) × WholeProgram (ts ++ rest) program × (program_depth program ≤ deep)

-- each beginning of the tokens begins a program of at most this depth
abbrev pub BeginsSoFar : (Begins : ℕ → List Token → Type 0) → ℕ → List Token → Type 0
BeginsSoFar Begins deep ts = (front back : List Token) → ts ≡ front ++ back → Begins deep front

-- what is answered for the tokens of a text of so many bytes, within a depth, by which tokens begin a program of which depth
pub data AnswersBy (Begins : ℕ → List Token → Type 0) (deep len : ℕ) : List Token → Result ProgramTree Refusal → Type 0 where
  -- a program within the depth is accepted
  accepted : {ts : List Token} {program : ProgramTree} → WholeProgram ts program → program_depth program ≤ deep → AnswersBy Begins deep len ts (Ok program)
  -- a token is wrong: those before it begin a program within the depth, and with it they begin none of any depth
  wrong : (front rest : List Token) (stop : Token) → BeginsSoFar Begins deep front → ((any : ℕ) → ¬ Begins any (front ++ (stop ∷ [])))
      → AnswersBy Begins deep len (front ++ (stop ∷ rest)) (Err (Syntax stop.at))
  -- a token is too deep: those before it begin a program within the depth, and with it they begin deeper ones alone
  too_deep : (front rest : List Token) (stop : Token) → BeginsSoFar Begins deep front → (¬ Begins deep (front ++ (stop ∷ [])))
      → (deeper : ℕ) → Begins deeper (front ++ (stop ∷ []))
      → AnswersBy Begins deep len (front ++ (stop ∷ rest)) (Err Deep)
  -- the tokens end too early: they begin a program within the depth, and are none
  ended : {ts : List Token} → BeginsSoFar Begins deep ts → ((program : ProgramTree) → WholeProgram ts program → program_depth program ≤ deep → ⊥)
      → AnswersBy Begins deep len ts (Err (Syntax len))

-- by the programs that begin with them
abbrev pub AnswersTokens : (deep len : ℕ) → List Token → Result ProgramTree Refusal → Type 0
AnswersTokens = AnswersBy BeginsProgram

-- the answer for the bytes of a text, whose tokens are those of the dialect that it names
pub data Parses : List ℕ → Result ProgramTree Refusal → Type 0 where
  -- a text over the greatest length is refused
  too_long : {bytes : List ℕ} → greatest_length < length bytes → Parses bytes (Err TooLong)
  -- a text with a bad byte is refused at the first one
  bad_byte : {bytes : List ℕ} {at : ℕ} → length bytes ≤ greatest_length → BadAt (dialect_of bytes) 0 bytes at → Parses bytes (Err (Lex at))
  -- a text of tokens is answered as these are
  read : {bytes : List ℕ} {tokens : List Token} {answer : Result ProgramTree Refusal} → length bytes ≤ greatest_length
      → Tokens (dialect_of bytes) 0 bytes tokens → AnswersTokens greatest_depth (length bytes) tokens answer → Parses bytes answer

-- no text has two answers
abbrev pub HaveOneAnswer : Type 0
HaveOneAnswer = (bytes : List ℕ) (one other : Result ProgramTree Refusal) → Parses bytes one → Parses bytes other → one ≡ other

-- each text has an answer
abbrev pub HaveSomeAnswer : Type 0
HaveSomeAnswer = (bytes : List ℕ) → (answer : Result ProgramTree Refusal) × Parses bytes answer

-- that is what `FrontProgram` says
abbrev pub FrontsBeginPrograms : Type 0
FrontsBeginPrograms = (deep : ℕ) (ts : List Token) → FrontProgram deep ts ↔ BeginsProgram deep ts

-- what was returned is one of the answers, unless memory ran out
abbrev pub IsRight : (Result ProgramTree Refusal → Type 0) → Result Program Refusal → Type 0
IsRight Answer (Ok program) = Answer (Ok (program_of program))
IsRight Answer (Err NoMemory) = Unit {0}
IsRight Answer (Err refusal) = Answer (Err refusal)

-- what was returned is this answer, unless memory ran out
abbrev pub Returns : Result Program Refusal → Result ProgramTree Refusal → Type 0
Returns (Ok program) answer = answer ≡ Ok (program_of program)
Returns (Err NoMemory) answer = Unit {0}
Returns (Err refusal) answer = answer ≡ Err refusal

-- each of the answers is what was returned, unless memory ran out
abbrev pub ReturnsEach : (Result ProgramTree Refusal → Type 0) → Result Program Refusal → Type 0
ReturnsEach Answer result = (answer : Result ProgramTree Refusal) → Answer answer → Returns result answer

-- the refusals that parsing may answer
abbrev pub IsOfText : Refusal → Type 0
IsOfText TooLong = Unit {0}
IsOfText (Lex at) = Unit {0}
IsOfText (Syntax at) = Unit {0}
IsOfText Deep = Unit {0}
IsOfText NoMemory = Unit {0}
IsOfText _ = ⊥
