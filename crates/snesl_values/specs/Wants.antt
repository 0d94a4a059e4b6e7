-- What the reader of an input text still wants, and what its parts answer.
use Rattle.std.specs.Prelude.{◌≡◌, ◌≢◌, ℕ, ◌<◌, ◌≤◌, List, [], ◌∷◌, ◌++◌, ◌⊎◌, length, Vec, None}
use Rattle.std.specs.Global.{Global}
use Rattle.snesl_data.specs.declared.dialect.Dialect.{Dialect}
use Rattle.snesl_values.specs.declared.inputs.InputError.{InputError}
use Rattle.snesl_values.specs.declared.inputs.InputError.TheVariants.{Bad, NoMemory}
use Rattle.snesl_data.specs.declared.ty.Ty.{Ty as TyTree}
use Rattle.snesl_data.specs.Types.{Ty, pair, ty_of}
use Rattle.snesl_values.specs.declared.places.InputPlace.{InputPlace}
use Rattle.snesl_values.specs.Entries.{entry_from, environment_at}
use Rattle.snesl_data.specs.Values.{Value, Values, HasType, AllHaveType}
use Rattle.snesl_values.specs.InputTokens.{Token, word, sign, next_at, next_token, HasTokens}
use Rattle.snesl_values.specs.Inputs.{InputDeclaration, Environment, equals, semicolon, value_tokens, items_tokens, further_tokens, entry_tokens, StopsAt, Spells, SpellsEnvironment}

-- a part of a lawful text that is still to come
pub data ToCome : Type 0 where
  -- this token
  one : Token → ToCome
  -- this token, or nothing
  perhaps : Token → ToCome
  -- a value of this type
  a_value : Ty → ToCome
  -- items of this type and the sign that closes them
  items : Ty → ℕ → ToCome
  -- the same after an item
  further_items : Ty → ℕ → ToCome

-- the tokens are all that is wanted
abbrev pub Meets : Dialect → ToCome → List Token → Type 0
Meets dialect (one token) tokens = tokens ≡ token ∷ []
Meets dialect (perhaps token) tokens = (tokens ≡ []) ⊎ (tokens ≡ token ∷ [])
Meets dialect (a_value t) tokens = (v : Value) × HasType dialect v t × (tokens ≡ value_tokens v)
Meets dialect (items t close) tokens = (vs : Values) × AllHaveType dialect vs t × (tokens ≡ items_tokens vs ++ (sign close ∷ []))
Meets dialect (further_items t close) tokens = (vs : Values) × AllHaveType dialect vs t × (tokens ≡ further_tokens vs ++ (sign close ∷ []))

-- the tokens meet the wants, one after the other
abbrev pub Fills : Dialect → List ToCome → List Token → Type 0
Fills dialect [] tokens = tokens ≡ []
Fills dialect (want ∷ wants) tokens =
    (these rest : List Token) × (tokens ≡ these ++ rest) × Meets dialect want these × Fills dialect wants rest

-- the wants of a declared input
abbrev pub entry_wants : InputDeclaration → List ToCome → List ToCome
entry_wants declaration wants = one (word declaration.0) ∷ one equals ∷ a_value declaration.1 ∷ wants

-- the wants after an entry, where these inputs are still to come
abbrev pub further_wants : List InputDeclaration → List ToCome
further_wants [] = perhaps semicolon ∷ []
further_wants (declaration ∷ declarations) = one semicolon ∷ entry_wants declaration (further_wants declarations)

-- the wants of a whole text
abbrev pub wants_of : List InputDeclaration → List ToCome
wants_of [] = []
wants_of (declaration ∷ declarations) = entry_wants declaration (further_wants declarations)

-- the error of a reader of these wants, whatever is wanted after them: the offset at which it stops, or that
-- memory was refused
abbrev pub IsStop : Dialect → List ToCome → List ℕ → ℕ → InputError → Type 0
IsStop dialect wants text from (Bad at) = (further : List ToCome) → StopsAt (Fills dialect (wants ++ further)) text from at
IsStop dialect wants text from NoMemory = Unit {0}

-- the same where a value of this type is wanted
abbrev pub IsValueStop : Dialect → Ty → List ℕ → ℕ → InputError → Type 0
IsValueStop dialect t text from error = IsStop dialect (a_value t ∷ []) text from error

-- the same where a declared input is wanted
abbrev pub IsEntryStop : Dialect → InputDeclaration → List ℕ → ℕ → InputError → Type 0
IsEntryStop dialect declaration text from error = IsStop dialect (entry_wants declaration []) text from error

-- the type of pairs of these
abbrev pub pair_of : TyTree → TyTree → Ty
pair_of first second = pair (ty_of first) (ty_of second)

-- a value of this type was read, which ends before this offset
pub record IsValueRead (dialect : Dialect) (text : List ℕ) (from : ℕ) (t : Ty) (value : Value) (end : ℕ) : Type 0 where
  pub has_type : HasType dialect value t
  pub reads : HasTokens text from (value_tokens value) end
  pub moves : from < end
  pub within : end ≤ length text

-- the same of some value
abbrev pub SomeValueRead : Dialect → List ℕ → ℕ → Ty → ℕ → Type 0
SomeValueRead dialect text from t end = (value : Value) × IsValueRead dialect text from t value end

-- items of this type were read, with the sign that closes them
pub record AreRead (dialect : Dialect) (text : List ℕ) (from : ℕ) (t : Ty) (close : ℕ) (values : Values) (end : ℕ) : Type 0 where
  pub have_type : AllHaveType dialect values t
  pub reads : HasTokens text from (items_tokens values ++ (sign close ∷ [])) end
  pub moves : from < end
  pub within : end ≤ length text

-- the same of some items
abbrev pub SomeItemsRead : Dialect → List ℕ → ℕ → Ty → ℕ → ℕ → Type 0
SomeItemsRead dialect text from t close end = (values : Values) × AreRead dialect text from t close values end

-- a declared input was read, which ends before this offset
pub record IsEntry (dialect : Dialect) (text : List ℕ) (from : ℕ) (declaration : InputDeclaration) (entry : List ℕ × Value) (end : ℕ) : Type 0 where
  pub named : entry.0 ≡ declaration.0
  pub has_type : HasType dialect entry.1 declaration.1
  pub reads : HasTokens text from (entry_tokens entry) end
  pub moves : from < end
  pub within : end ≤ length text

-- the same of the name and the place that were found
abbrev pub EntryRead : Dialect → List ℕ → ℕ → InputDeclaration → InputPlace × ℕ → Type 0
EntryRead dialect text from declaration found = IsEntry dialect text from declaration (entry_from text found.0) found.1

-- all declared inputs were read, up to this offset, and nothing may stand after them
pub record AllRead (dialect : Dialect) (text : List ℕ) (declarations : List InputDeclaration) (environment : Environment) (end : ℕ) : Type 0 where
  pub tokens : List Token
  pub reads : HasTokens text 0 tokens end
  pub spells : Spells dialect declarations environment tokens
  pub within : end ≤ length text
  pub no_more : next_token text end ≢ None → StopsAt (SpellsEnvironment dialect declarations) text 0 (next_at text end)

-- the same of the names and places that were found
abbrev pub EntriesRead : Dialect → List ℕ → List InputDeclaration → Vec InputPlace Global × ℕ → Type 0
EntriesRead dialect text declarations found = AllRead dialect text declarations (environment_at text found.0.items) found.1

-- the error of the reader of a whole text
abbrev pub IsStopOf : Dialect → List InputDeclaration → List ℕ → InputError → Type 0
IsStopOf dialect declarations text (Bad at) = StopsAt (SpellsEnvironment dialect declarations) text 0 at
IsStopOf dialect declarations text NoMemory = Unit {0}
