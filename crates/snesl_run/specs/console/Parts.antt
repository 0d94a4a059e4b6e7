-- The parts of a job, each cut after the first byte that is too many, and which beginning of a job decides them.
use Rattle.std.specs.Prelude.{◌≡◌, ◌<◌, ◌≤◌, ℕ, List, [], ◌++◌, length, take}
use Rattle.snesl_run.specs.console.Job.{IsJob}

-- of a program so many bytes count, one more than the longest has
abbrev pub most_of_program : ℕ
most_of_program = 65537

-- and of an input text
abbrev pub most_of_input : ℕ
most_of_input = 16777217

-- the program and the input text of a job, each cut after the first byte that is too many
pub data AreParts (job program input : List ℕ) : Type 0 where
  fitting : (behind : List ℕ) → IsJob job program behind → length program ≤ most_of_program → input ≡ take most_of_input behind
      → AreParts job program input
  -- a program that is cut has no input text, since it is refused whatever that is
  too_long : (whole behind : List ℕ) → IsJob job whole behind → most_of_program < length whole → program ≡ take most_of_program whole → input ≡ []
      → AreParts job program input

-- these bytes do not decide the parts: no parts are those of all jobs that begin so
abbrev pub IsOpen : List ℕ → Type 0
IsOpen read = (program input : List ℕ) → ¬ ((rest : List ℕ) → AreParts (read ++ rest) program input)

-- none of these bytes is idle: no beginning that is shorter decides the parts
abbrev pub AreNeeded : List ℕ → Type 0
AreNeeded read = (front behind : List ℕ) → read ≡ front ++ behind → 0 < length behind → IsOpen front
