-- What is cut off a job changes no meaning.
use Rattle.std.specs.Prelude.{◌↔◌, ℕ, List}
use Rattle.snesl_meaning.specs.Meaning.{Meaning, Means}
use Rattle.snesl_run.specs.console.Job.{IsJob}
use Rattle.snesl_run.specs.console.Parts.{AreParts}

-- the parts of a job, each cut after the first byte that is too many, mean what its program and its input text do
abbrev pub CutsChangeNothing : Type 0
CutsChangeNothing =
    (job program input cut_program cut_input : List ℕ) (m : Meaning) → IsJob job program input → AreParts job cut_program cut_input
    → Means program input m ↔ Means cut_program cut_input m
