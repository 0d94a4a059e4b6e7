-- Characters of words and of integers, in programs and in input texts.
use Rattle.std.specs.Prelude.{ℕ, ◌+◌, ◌-◌, ◌*◌, List, [], ◌∷◌, Bool, ◌||◌, ◌==◌}
use Rattle.std.specs.Char.{is_ascii_digit, is_ascii_alphabetic}

-- a letter, a digit or `_`
abbrev pub is_word : ℕ → Bool
is_word b = is_ascii_alphabetic b || is_ascii_digit b || b == 95

-- the number that digits write, after the digits of another
abbrev pub value_from : ℕ → List ℕ → ℕ
value_from n [] = n
value_from n (c ∷ cs) = value_from (10 * n + (c - 48)) cs
