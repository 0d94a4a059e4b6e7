-- The integers of the language: 64 bits with a sign, and 128 in the second dialect.
use Rattle.std.specs.Prelude.{ℕ, Bool, IsTrue, nat_le, ℤ, pos, negsuc}
use Rattle.snesl_data.specs.declared.dialect.Dialect.{Dialect}
use Rattle.snesl_data.specs.declared.dialect.Dialect.TheVariants.{One, Two}

-- the greatest integer of a dialect, which is also its greatest literal
abbrev pub greatest_integer : Dialect → ℕ
greatest_integer One = 9223372036854775807
greatest_integer Two = 170141183460469231731687303715884105727

-- whether a number lies in the range of a dialect, which reaches one further below 0 than above; negsuc n is -n - 1
abbrev pub is_integer : Dialect → ℤ → Bool
is_integer dialect (pos n) = nat_le n (greatest_integer dialect)
is_integer dialect (negsuc n) = nat_le n (greatest_integer dialect)

-- the number lies in it
abbrev pub IsInteger : Dialect → ℤ → Type 0
IsInteger dialect n = IsTrue (is_integer dialect n)
