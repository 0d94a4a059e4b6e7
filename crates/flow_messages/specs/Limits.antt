-- The limit of a table, as a number.
use Rattle.std.specs.Prelude.{ℕ}

-- the largest capacity of a table
abbrev pub greatest_capacity : ℕ
greatest_capacity = 65536
