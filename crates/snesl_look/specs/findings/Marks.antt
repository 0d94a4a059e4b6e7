-- How far what a message stands at goes.
use Rattle.std.specs.Prelude.{ℕ, suc, List, [], ◌∷◌, Bool, ◌==◌, ◌||◌, ◌&&◌, nat_lt, nat_le, if◌then◌else◌}
use Rattle.std.specs.List.{prefix_len}
use Rattle.snesl_data.specs.Blanks.{is_blank}
use Rattle.snesl_data.specs.Characters.{is_word}

-- `==`, `<=`, `>=` and `++`
abbrev pub is_long_sign : ℕ → ℕ → Bool
is_long_sign first second =
    ((first == 61 || (first == 60 || first == 62)) && second == 61) || (first == 43 && second == 43)

-- a later byte of a character of several: 128 to 191
abbrev pub continues : ℕ → Bool
continues byte = nat_le 128 byte && nat_lt byte 192

-- a character: its first byte, and the later ones
abbrev pub later_len : List ℕ → ℕ
later_len rest = suc (prefix_len continues rest)

-- what begins with these two bytes
abbrev pub pair_len : ℕ → ℕ → List ℕ → ℕ
pair_len first second rest = if is_long_sign first second then 2 else later_len (second ∷ rest)

-- a sign of two bytes, or a character
abbrev pub printed_len : ℕ → List ℕ → ℕ
printed_len first [] = 1
printed_len first (second ∷ rest) = pair_len first second rest

-- nothing at a blank and at the end
abbrev pub sign_len : List ℕ → ℕ
sign_len [] = 0
sign_len (first ∷ rest) = if is_blank first then 0 else printed_len first rest

-- a word, or else a sign or a character
abbrev pub mark_len : List ℕ → ℕ
mark_len text = if nat_lt 0 (prefix_len is_word text) then prefix_len is_word text else sign_len text
