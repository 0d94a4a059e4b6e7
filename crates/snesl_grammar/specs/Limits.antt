-- How long a program may be, and how deep.
use Rattle.std.specs.Prelude.{ℕ}

-- the longest program, in bytes
abbrev pub greatest_length : ℕ
greatest_length = 65536

-- the depth of the deepest expression, and of the deepest type
abbrev pub greatest_depth : ℕ
greatest_depth = 64
