-- What an input text spells, and where it is refused.
use Rattle.std.specs.Prelude.{◌≡◌, ℕ, ◌<◌, ◌≤◌, List, [], ◌∷◌, ◌++◌, ◌⊎◌, length, Option, Some, None, option_map, Result, Err, IsOk, if◌then◌else◌}
use Rattle.std.specs.List.{slice_get}
use Rattle.std.specs.Str.{bytes_eq}
use Rattle.std.specs.Arc.{arc_value}
use Rattle.snesl_data.specs.declared.dialect.Dialect.{Dialect}
use Rattle.snesl_values.specs.declared.environment.Inputs.{Inputs}
use Rattle.snesl_values.specs.declared.inputs.InputError.{InputError}
use Rattle.snesl_values.specs.declared.inputs.InputError.TheVariants.{Bad, NoMemory}
use Rattle.snesl_data.specs.declared.refusal.Refusal.{Refusal}
use Rattle.snesl_data.specs.declared.refusal.Refusal.TheVariants as refusals
pub use Rattle.snesl_values.specs.Declarations.{InputDeclaration, Environment, FitDeclarations, declaration_of, declared}
pub use Rattle.snesl_values.specs.Spellings.{equals, semicolon, comma, left_paren, right_paren, left_bracket, right_bracket, left_brace, right_brace, value_tokens, items_tokens, further_tokens}
use Rattle.snesl_values.specs.declared.places.InputPlace.{InputPlace}
use Rattle.snesl_values.specs.Entries.{environment_at, AreSpelledAt}
use Rattle.snesl_data.specs.declared.datum.Datum.{Datum}
use Rattle.snesl_data.specs.Values.{Value, value_of}
use Rattle.snesl_values.specs.InputTokens.{Token, word, next_at, next_token, HasTokens}

-- the greatest length of an input text, in bytes
abbrev pub greatest_input_length : ℕ
greatest_input_length = 16777216

-- `name = value`
abbrev pub entry_tokens : List ℕ × Value → List Token
entry_tokens entry = word entry.0 ∷ equals ∷ value_tokens entry.1

-- the entries, with a semicolon before each
abbrev pub further_entries : Environment → List Token
further_entries [] = []
further_entries (entry ∷ environment) = semicolon ∷ (entry_tokens entry ++ further_entries environment)

-- the entries, with a semicolon before each but the first
abbrev pub environment_tokens : Environment → List Token
environment_tokens [] = []
environment_tokens (entry ∷ environment) = entry_tokens entry ++ further_entries environment

-- the tokens are the entries; after the last one a semicolon may stand
abbrev pub AreEntries : Environment → List Token → Type 0
AreEntries [] tokens = tokens ≡ []
AreEntries environment tokens =
    (tokens ≡ environment_tokens environment) ⊎ (tokens ≡ environment_tokens environment ++ (semicolon ∷ []))

-- the tokens spell this environment for these declarations, in the dialect
pub record Spells (dialect : Dialect) (declarations : List InputDeclaration) (environment : Environment) (tokens : List Token) : Type 0 where
  pub fits : FitDeclarations dialect declarations environment
  pub entries : AreEntries environment tokens

-- the tokens spell some environment
abbrev pub SpellsEnvironment : Dialect → List InputDeclaration → List Token → Type 0
SpellsEnvironment dialect declarations tokens = (environment : Environment) × Spells dialect declarations environment tokens

-- some list of tokens of this kind begins with these
abbrev pub CanBecome : (List Token → Type 0) → List Token → Type 0
CanBecome Kind front = (rest : List Token) × Kind (front ++ rest)

-- what comes next, a token or the end of the text, may stand after these tokens in lists of this kind
abbrev pub MayFollow : (List Token → Type 0) → List Token → Option Token → Type 0
MayFollow Kind front (Some token) = CanBecome Kind (front ++ (token ∷ []))
MayFollow Kind front None = Kind front

-- reading a list of this kind from an offset on stops at another offset: the tokens up to there begin
-- such a list, and what stands there, a token or the end of the text, may not follow them
pub record StopsAt (Kind : List Token → Type 0) (text : List ℕ) (from stop : ℕ) : Type 0 where
  pub front : List Token
  pub end : ℕ
  pub reads : HasTokens text from front end
  pub begins : CanBecome Kind front
  pub refuses : ¬ MayFollow Kind front (next_token text end)
  pub there : stop ≡ next_at text end

-- what a text answers: the inputs that it spells, or the byte at which it is refused
pub data InputAnswer : Type 0 where
  spells : Environment → InputAnswer
  refused_at : ℕ → InputAnswer

-- the answer that a text has for these declarations, in the dialect
pub data InputMeans (dialect : Dialect) (declarations : List InputDeclaration) (text : List ℕ) : InputAnswer → Type 0 where
  -- a text that is too long is refused at the limit, whatever it holds
  too_long : greatest_input_length < length text → InputMeans dialect declarations text (refused_at greatest_input_length)
  -- a text spells the environment that its tokens do
  lawful : {environment : Environment} {tokens : List Token} {end : ℕ} → length text ≤ greatest_input_length
      → HasTokens text 0 tokens end → next_token text end ≡ None → Spells dialect declarations environment tokens
      → InputMeans dialect declarations text (spells environment)
  -- any other text is refused at the first token that may not stand there, or at its length where it ends too early
  unlawful : {at : ℕ} → length text ≤ greatest_input_length → StopsAt (SpellsEnvironment dialect declarations) text 0 at
      → InputMeans dialect declarations text (refused_at at)

-- no text has two answers
abbrev pub OneInputMeaning : Type 0
OneInputMeaning =
    (dialect : Dialect) (declarations : List InputDeclaration) (text : List ℕ) (a b : InputAnswer)
    → InputMeans dialect declarations text a → InputMeans dialect declarations text b → a ≡ b

-- each text has an answer
abbrev pub SomeInputMeaning : Type 0
SomeInputMeaning = (dialect : Dialect) (declarations : List InputDeclaration) (text : List ℕ) → (answer : InputAnswer) × InputMeans dialect declarations text answer

-- the declarations for which inputs were read
unfoldable pub declarations_of : Inputs → List InputDeclaration
declarations_of inputs = declared inputs.decls.items

-- the dialect in which they were read
unfoldable pub dialect_of : Inputs → Dialect
dialect_of inputs = inputs.dialect

-- the text in which they were read
unfoldable pub text_in : Inputs → List ℕ
text_in inputs = (arc_value inputs.text).items

-- the names and the places of their values in the text
unfoldable pub placed_in : Inputs → List InputPlace
placed_in inputs = inputs.all.items

-- the names and the values that are spelled at their places
unfoldable pub environment_of : Inputs → Environment
environment_of inputs = environment_at (arc_value inputs.text).items inputs.all.items

-- the name of the entry of this number
abbrev pub entry_name_at : Environment → ℕ → Option (List ℕ)
entry_name_at environment number = option_map (λ (entry : List ℕ × Value). entry.0) (slice_get environment number)

-- the datum is the value of the entry of this number
abbrev pub IsEntryValue : Environment → ℕ → Datum → Type 0
IsEntryValue environment number datum = option_map (λ (entry : List ℕ × Value). entry.1) (slice_get environment number) ≡ Some (value_of datum)

-- the inputs have the names and types of the declarations, in order
abbrev pub InputsFit : Dialect → List InputDeclaration → Inputs → Type 0
InputsFit dialect declarations inputs = FitDeclarations dialect declarations (environment_of inputs)

-- from each place on, the text spells a value of the declared type
abbrev pub InputsPlaced : Inputs → Type 0
InputsPlaced inputs = AreSpelledAt (dialect_of inputs) (text_in inputs) (declarations_of inputs) (placed_in inputs)

-- the names, each beside the value that the text spells from its place on
abbrev pub spelled_environment : Inputs → Environment
spelled_environment inputs = environment_at (text_in inputs) (placed_in inputs)

-- the inputs are what the text spells
abbrev pub AreMeant : (InputAnswer → Type 0) → Inputs → Type 0
AreMeant Means inputs = Means (spells (environment_of inputs))

-- the error is that memory was refused, or the offset at which the text is
abbrev pub IsMeantStop : (InputAnswer → Type 0) → InputError → Type 0
IsMeantStop Means error = (error ≡ NoMemory) ⊎ ((at : ℕ) × (error ≡ Bad at) × Means (refused_at at))

-- a text that spells an environment was read, unless memory was refused
abbrev pub ReadsLawful : (InputAnswer → Type 0) → Result Inputs InputError → Type 0
ReadsLawful Means result = (environment : Environment) → Means (spells environment) → IsOk result ⊎ (result ≡ Err NoMemory)

-- a text that is refused at an offset was refused there, unless memory was refused
abbrev pub RefusesUnlawful : (InputAnswer → Type 0) → Result Inputs InputError → Type 0
RefusesUnlawful Means result = (at : ℕ) → Means (refused_at at) → (result ≡ Err (Bad at)) ⊎ (result ≡ Err NoMemory)

-- the value of the first entry of this name
abbrev pub value_in : List ℕ → Environment → Option Value
value_in name [] = None
value_in name (entry ∷ environment) = if bytes_eq name entry.0 then Some entry.1 else value_in name environment

-- the refusal of a job whose input was not read
abbrev pub refusal_of : InputError → Refusal
refusal_of (Bad at) = refusals.BadInput at
refusal_of NoMemory = refusals.NoMemory
