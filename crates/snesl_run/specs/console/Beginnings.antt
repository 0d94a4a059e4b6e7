-- What the beginning of a job says of the parts of all jobs that begin so.
use Rattle.std.specs.Prelude.{◌≢◌, ◌<◌, ◌≤◌, ℕ, List, [], ◌++◌, length, take, drop, slice_index}
use Rattle.snesl_run.specs.declared.console.beginning.Beginning.{Beginning}
use Rattle.snesl_run.specs.declared.console.beginning.Beginning.TheVariants.{Parted, TooLong, Open}
use Rattle.snesl_run.specs.console.Job.{EndsLine, NoSeparatorBefore, IsJob}
use Rattle.snesl_run.specs.console.Parts.{most_of_program, AreParts, IsOpen}

-- A line begins at this place, where a program may end, and no line before it is the separator, whatever follows the bytes. No
-- line feed stands between there and `from`.
pub record IsScanned (bytes : List ℕ) (line from : ℕ) : Type 0 where
  pub within : line ≤ from
  pub inside : from ≤ length bytes
  pub early : line ≤ most_of_program
  pub begins : EndsLine (take line bytes)
  pub passed : (rest : List ℕ) → NoSeparatorBefore line (bytes ++ rest)
  pub unended : (k : ℕ) → line ≤ k → k < from → slice_index bytes k ≢ 10

-- the first separator ends the program here, and the input text begins there, whatever follows the bytes
pub record IsParted (bytes : List ℕ) (program input : ℕ) : Type 0 where
  pub early : program ≤ most_of_program
  pub within : program ≤ length bytes
  pub behind : input ≤ length bytes
  pub job : (rest : List ℕ) → IsJob (bytes ++ rest) (take program bytes) (drop input bytes ++ rest)

-- the bytes decide no parts, and are few
pub record IsUndecided (bytes : List ℕ) (line : ℕ) : Type 0 where
  pub last : IsScanned bytes line (length bytes)
  pub undecided : IsOpen bytes
  pub few : length bytes ≤ 65541

-- what is known holds of these bytes
abbrev pub Tells : List ℕ → Beginning → Type 0
Tells bytes (Parted program input) = IsParted bytes program input
Tells bytes TooLong = (rest : List ℕ) → AreParts (bytes ++ rest) (take most_of_program bytes) []
Tells bytes (Open line) = IsUndecided bytes line
