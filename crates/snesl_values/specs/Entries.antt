-- Inputs as names and places in a text.
use Rattle.std.specs.Prelude.{◌≡◌, ℕ, ◌+◌, ◌≤◌, List, [], ◌∷◌, map, length, Vec, Option, Some, None}
use Rattle.std.specs.Global.{Global}
use Rattle.snesl_data.specs.declared.dialect.Dialect.{Dialect}
use Rattle.snesl_data.specs.Types.{Ty}
use Rattle.snesl_data.specs.Values.{Value, HasType}
use Rattle.snesl_values.specs.Declarations.{InputDeclaration, Environment}
use Rattle.snesl_values.specs.InputTokens.{Token, SizedToken, next_at, next_lexeme}
use Rattle.snesl_values.specs.Spellings.{value_tokens}
use Rattle.snesl_values.specs.Places.{value_at}
use Rattle.snesl_values.specs.declared.places.InputPlace.{InputPlace}

-- a name, and the value that is read from its place on
abbrev pub entry_from : List ℕ → InputPlace → List ℕ × Value
entry_from text placed = (placed.name.items, value_at text placed.place)

-- the same for all of them
abbrev pub environment_at : List ℕ → List InputPlace → Environment
environment_at text all = map (entry_from text) all

-- the token comes next, and `Behind` is true of the offset after it
abbrev pub ComesBy : (ℕ → Type 0) → Token → ℕ → Option SizedToken → Type 0
ComesBy Behind token start None = ⊥
ComesBy Behind token start (Some lexeme) = (lexeme.0 ≡ token) × Behind (start + lexeme.1)

-- these tokens come next: what `Reads` says up to some offset, with one proof at most
abbrev pub Comes : List ℕ → ℕ → List Token → Type 0
Comes text at [] = Unit {0}
Comes text at (token ∷ tokens) = ComesBy (λ behind. Comes text behind tokens) token (next_at text at) (next_lexeme text at)

-- a value of the type is spelled from the place on
abbrev pub IsSpelledAt : Dialect → List ℕ → Ty → ℕ → Type 0
IsSpelledAt dialect text t place = (place ≤ length text) × HasType dialect (value_at text place) t × Comes text place (value_tokens (value_at text place))

-- the same for the name and the place that were found for a declaration
abbrev pub IsEntryPlaced : Dialect → List ℕ → InputDeclaration → InputPlace × ℕ → Type 0
IsEntryPlaced dialect text declaration found = IsSpelledAt dialect text declaration.1 found.0.place

-- the same for each declaration and its place, in order
abbrev pub AreSpelledAt : Dialect → List ℕ → List InputDeclaration → List InputPlace → Type 0
AreSpelledAt dialect text [] [] = Unit {0}
AreSpelledAt dialect text (declaration ∷ declarations) (placed ∷ all) = IsSpelledAt dialect text declaration.1 placed.place × AreSpelledAt dialect text declarations all
AreSpelledAt dialect text _ _ = ⊥

-- the same for the names and places that were found
abbrev pub AreEntriesPlaced : Dialect → List ℕ → List InputDeclaration → Vec InputPlace Global × ℕ → Type 0
AreEntriesPlaced dialect text declarations found = AreSpelledAt dialect text declarations found.0.items
