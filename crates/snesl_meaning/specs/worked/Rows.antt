-- Rows of a table: what people write, and what it means.
use Rattle.std.specs.Prelude.{ℕ, List, [], ◌∷◌, map, ℤ, pos, codes}
use Rattle.snesl_data.specs.Values.{Value, an_int, a_pair, a_seq, values_of}
use Rattle.snesl_meaning.specs.Meaning.{Meaning, Means}
use Prim.Native.String.{String}

infixl 20 ◌means◌
infixl 20 ◌on◌means◌
-- a program, an input text, and their meaning
pub record Row : Type 0 where
  pub program : String
  pub input : String
  pub meaning : Meaning

-- `program means meaning`, without inputs
abbrev pub ◌means◌ : String → Meaning → Row
program means meaning = record { program = program; input = ""; meaning = meaning }

-- `program on input means meaning`
abbrev pub ◌on◌means◌ : String → String → Meaning → Row
program on input means meaning = record { program = program; input = input; meaning = meaning }

-- the program of a row means for its input text what the row says
abbrev pub Holds : Row → Type 0
Holds row = Means (codes row.program) (codes row.input) row.meaning

-- so do all of them
abbrev pub Hold : List Row → Type 0
Hold [] = Unit {0}
Hold (row ∷ rows) = Holds row × Hold rows

-- an integer that is not negative
abbrev pub number : ℕ → Value
number n = an_int (pos n)

-- a sequence of such values
abbrev pub sequence : List Value → Value
sequence vs = a_seq (values_of vs)

-- a sequence of integers that are not negative
abbrev pub numbers : List ℕ → Value
numbers ns = sequence (map number ns)
