-- A job: the program, a line that is exactly `---`, and the input text.
use Rattle.std.specs.Prelude.{◌≡◌, ◌<◌, ◌⊎◌, ℕ, List, [], ◌∷◌, ◌++◌, length, codes}

-- the bytes begin with the line `---`, ended by a line feed, by carriage return and line feed, or by the end; this follows it
pub data BeginsWithSeparator : List ℕ → List ℕ → Type 0 where
  at_the_end : BeginsWithSeparator (codes "---") []
  before_line_feed : (input : List ℕ) → BeginsWithSeparator (codes "---\n" ++ input) input
  before_carriage_return : (input : List ℕ) → BeginsWithSeparator (codes "---\r\n" ++ input) input

-- a line begins after these bytes
abbrev pub EndsLine : List ℕ → Type 0
EndsLine front = (front ≡ []) ⊎ ((others : List ℕ) × (front ≡ others ++ 10 ∷ []))

-- no line before this place is the separator
abbrev pub NoSeparatorBefore : ℕ → List ℕ → Type 0
NoSeparatorBefore n job =
    (front back input : List ℕ) → job ≡ front ++ back → length front < n → EndsLine front → ¬ BeginsWithSeparator back input

-- the program and the input text of a job
pub data IsJob : List ℕ → List ℕ → List ℕ → Type 0 where
  -- the first separator ends the program
  parted : (program back input : List ℕ) → EndsLine program → BeginsWithSeparator back input
      → NoSeparatorBefore (length program) (program ++ back)
      → IsJob (program ++ back) program input
  -- no line is the separator
  program_alone : (job : List ℕ) → ((n : ℕ) → NoSeparatorBefore n job) → IsJob job job []

-- no job is split in two ways
abbrev pub HaveOneJob : Type 0
HaveOneJob =
    (job program input program' input' : List ℕ) → IsJob job program input → IsJob job program' input'
    → (program ≡ program') × (input ≡ input')

-- each job is split in some way
abbrev pub HaveSomeJob : Type 0
HaveSomeJob = (job : List ℕ) → (program : List ℕ) × (input : List ℕ) × IsJob job program input
