-- Brackets that are open.
use Rattle.std.specs.Prelude.{ℕ, zero, suc, ◌-◌, ◌==◌, ◌||◌, ◌++◌, Bool, List, [], ◌∷◌, Option, if◌then◌else◌, length, slice_get, slice_index, take}

-- a bracket that opens
abbrev pub opens : ℕ → Bool
opens byte = byte == 40 || byte == 91 || byte == 123

-- a bracket that closes
abbrev pub closes : ℕ → Bool
closes byte = byte == 41 || byte == 93 || byte == 125

-- all places but the last
abbrev pub outer : List ℕ → List ℕ
outer places = take (length places - 1) places

-- the places of open brackets, the innermost last, after a byte at this place
abbrev pub open_after : (byte place : ℕ) → List ℕ → List ℕ
open_after byte place places = if opens byte then places ++ place ∷ [] else if closes byte then outer places else places

-- the places of the brackets that are open before an offset of a text
abbrev pub open_before : List ℕ → ℕ → List ℕ
open_before text zero = []
open_before text (suc n) = open_after (slice_index text n) n (open_before text n)

-- the innermost of them
abbrev pub innermost : List ℕ → Option ℕ
innermost places = slice_get places (length places - 1)
