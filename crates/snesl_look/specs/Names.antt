-- Names that are near to one that is not bound.
use Rattle.std.specs.Prelude.{◌≡◌, ◌≢◌, ◌<◌, ◌≤◌, ◌⊎◌, ℕ, ◌+◌, ◌-◌, ◌/◌, ◌++◌, ◌==◌, ◌&&◌, ◌||◌, Bool, IsTrue, List, [], ◌∷◌, codes, drop, get_or}
use Rattle.std.specs.Prelude.{if◌then◌else◌, length, max, min, nat_eq, not, slice_index}
use Rattle.std.specs.Char.{is_ascii_alphabetic}
use Rattle.snesl_data.specs.Characters.{is_word}
use Rattle.snesl_look.specs.Functions.{front_word}
use Rattle.strsim.specs.Edits.{levenshtein_row}

-- a letter stands there, and before it nothing that may stand in a word
abbrev pub begins_name : List ℕ → ℕ → Bool
begins_name text place = is_ascii_alphabetic (slice_index text place) && (place == 0 || not (is_word (slice_index text (place - 1))))

-- the word that begins there
abbrev pub name_at : List ℕ → ℕ → List ℕ
name_at text place = front_word (drop place text)

-- a name begins at this place of a text
abbrev pub BeginsName : List ℕ → ℕ → Type 0
BeginsName text place = (place < length text) × IsTrue (begins_name text place)

-- the reserved words, but for the built-in functions
abbrev pub keywords : List ℕ
keywords = codes "input function let in if then else true false not and or int bool dialect"

-- the built-in functions
abbrev pub built_ins : List ℕ
built_ins = codes " iota scan_add reduce_add reduce_max reduce_and reduce_or length concat part the tab seq fst snd"

-- a word is one of the first
abbrev pub IsKeyword : List ℕ → Type 0
IsKeyword word = (place : ℕ) × BeginsName keywords place × (name_at keywords place ≡ word)

-- another name than that at `at` begins at this place
abbrev pub IsOther : (text : List ℕ) → (at place : ℕ) → Type 0
IsOther text at place = BeginsName text place × (place ≢ at) × ¬ IsKeyword (name_at text place)

-- how many bytes must be put in, taken out or replaced to make one name of another
abbrev pub distance : List ℕ → List ℕ → ℕ
distance from to = levenshtein_row nat_eq from to (length to)

-- The cases: a name is made of none by its bytes; and of another by that byte more, by a last byte that is the same or replaced, or by
-- one fewer, whichever takes the least.
abbrev pub DistanceIsByCases : Type 0
DistanceIsByCases =
    ((to : List ℕ) → distance [] to ≡ length to) × ((from : List ℕ) → distance from [] ≡ length from)
    × ((from to : List ℕ) (x y : ℕ) → distance (from ++ x ∷ []) (to ++ y ∷ [])
    ≡ min (distance (from ++ x ∷ []) to + 1) (min (distance from to + (if x == y then 0 else 1)) (distance from (to ++ y ∷ []) + 1)))

-- A name is made of another by so many edits: each byte is kept, put in, taken out or replaced.
pub data Edits : List ℕ → List ℕ → ℕ → Type 0 where
  nothing : Edits [] [] 0
  keeps : (from to : List ℕ) (n x : ℕ) → Edits from to n → Edits (from ++ x ∷ []) (to ++ x ∷ []) n
  puts_in : (from to : List ℕ) (n y : ℕ) → Edits from to n → Edits from (to ++ y ∷ []) (n + 1)
  takes_out : (from to : List ℕ) (n x : ℕ) → Edits from to n → Edits (from ++ x ∷ []) to (n + 1)
  replaces : (from to : List ℕ) (n x y : ℕ) → Edits from to n → Edits (from ++ x ∷ []) (to ++ y ∷ []) (n + 1)

-- so many edits as the distance make one name of the other, and no fewer
abbrev pub DistanceIsLeast : Type 0
DistanceIsLeast = (from to : List ℕ) → Edits from to (distance from to) × ((n : ℕ) → Edits from to n → distance from to ≤ n)

-- names are near up to this distance: a third of the length, but at least 1 and at most 2
abbrev pub most_edits : List ℕ → ℕ
most_edits word = max 1 (min 2 (length word / 3))

-- how far the name at a place is from a word
abbrev pub distance_at : (text word : List ℕ) → ℕ → ℕ
distance_at text word place = distance (name_at text place) word

-- The name at this place is near to the word, none of the others is nearer, and none before it is as near.
pub record IsNearestAt (text : List ℕ) (at : ℕ) (word : List ℕ) (place : ℕ) : Type 0 where
  pub other : IsOther text at place
  pub near : distance_at text word place ≤ most_edits word
  pub nearest : (k : ℕ) → IsOther text at k → distance_at text word place ≤ distance_at text word k
  pub first : (k : ℕ) → k < place → IsOther text at k → distance_at text word place < distance_at text word k

-- none of the others is near
abbrev pub NoneNear : (text : List ℕ) → (at : ℕ) → (word : List ℕ) → Type 0
NoneNear text at word = (k : ℕ) → IsOther text at k → most_edits word < distance_at text word k

-- a program, and after it the built-in functions
abbrev pub searched : List ℕ → List ℕ
searched program = program ++ built_ins

-- this name is meant by the one at `at`, which has at most 64 bytes and stands nowhere else: it is the first of the nearest
abbrev pub IsMeant : (program : List ℕ) → (at : ℕ) → (name : List ℕ) → Type 0
IsMeant program at name =
    (length (name_at program at) ≤ 64) × (name ≢ name_at program at)
    × ((place : ℕ) × IsNearestAt (searched program) at (name_at program at) place × (name ≡ name_at (searched program) place))

-- no name is: that at `at` is longer, no other is near to it, or it stands elsewhere too
abbrev pub NoneMeant : (program : List ℕ) → (at : ℕ) → Type 0
NoneMeant program at =
    (64 < length (name_at program at)) ⊎ (NoneNear (searched program) at (name_at program at)
    ⊎ ((place : ℕ) × IsOther (searched program) at place × (name_at (searched program) place ≡ name_at program at)))

-- how far the name of this number is from a word
abbrev pub distance_among : (names : List (List ℕ)) → (word : List ℕ) → ℕ → ℕ
distance_among names word number = distance (get_or names number []) word

-- The name of this number is near to the word, which has at most 64 bytes, none of the names is nearer, and none before it is as near.
pub record IsNearestAmong (names : List (List ℕ)) (word : List ℕ) (number : ℕ) : Type 0 where
  pub short : length word ≤ 64
  pub within : number < length names
  pub near : distance_among names word number ≤ most_edits word
  pub nearest : (k : ℕ) → k < length names → distance_among names word number ≤ distance_among names word k
  pub first : (k : ℕ) → k < number → distance_among names word number < distance_among names word k

-- the word is longer, or none of the names is near
abbrev pub NoneNearAmong : (names : List (List ℕ)) → (word : List ℕ) → Type 0
NoneNearAmong names word = (64 < length word) ⊎ ((k : ℕ) → k < length names → most_edits word < distance_among names word k)
