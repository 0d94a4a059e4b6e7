-- The lines that are printed, and how.
use Rattle.std.specs.Prelude.{◌≡◌, ℕ, true, false, List, ◌∷◌, [], ◌++◌, Option, Some, None, decimal, codes}
use Rattle.snesl_data.specs.declared.counted.Counted.{Counted}
use Rattle.snesl_data.specs.declared.fault.FaultKind.{FaultKind}
use Rattle.snesl_data.specs.declared.refusal.Refusal.{Refusal}
use Rattle.snesl_data.specs.declared.refusal.Refusal.TheVariants.{Output}
use Rattle.snesl_data.specs.Faults.{number_of_fault}
use Rattle.snesl_data.specs.Refusals.{number_of_refusal, offset_of_refusal, is_of_the_system, status_of_refusal}
use Rattle.snesl_run.specs.console.Streams.{WriteEffect, IsWrittenWhole, IsCutOff, WasTold, write_effect}

-- ` at K` where there is an offset
abbrev pub place_text : Option ℕ → List ℕ
place_text None = []
place_text (Some at) = codes " at " ++ decimal at

-- `refused N at K` or `refused N`
abbrev pub refusal_line : Refusal → List ℕ
refusal_line refusal = codes "refused " ++ decimal (number_of_refusal refusal) ++ place_text (offset_of_refusal refusal) ++ 10 ∷ []

-- `fault N at K`
abbrev pub fault_line : FaultKind → ℕ → List ℕ
fault_line kind at = codes "fault " ++ decimal (number_of_fault kind) ++ place_text (Some at) ++ 10 ∷ []

-- the line of a network that has stalled
abbrev pub stalled_line : List ℕ
stalled_line = codes "stalled\n"

-- a line was printed on standard output, and this is the exit status
pub data Prints (out err : WriteEffect) (line : List ℕ) (status : ℕ) : ℕ → Type 0 where
  -- all of it was written, and nothing on standard error
  written : IsWrittenWhole out line → err.nothing → Prints out err line status status
  -- a write failed, which is said on standard error
  cut_off : IsCutOff out line → WasTold err (refusal_line Output) → Prints out err line status (status_of_refusal Output)

-- the same of writers before a call and after it, by the bytes that they hold
module _ {W E : Type 0} (contents : W → Option (List ℕ)) (err_contents : E → Option (List ℕ)) (out out' : Counted W) (err err' : Counted E) where
  abbrev pub PrintsLine : List ℕ → ℕ → ℕ → Type 0
  PrintsLine line code status = Prints (write_effect contents out out') (write_effect err_contents err err') line code status

-- a refusal was said, and this is the exit status
pub data Refuses (out err : WriteEffect) (refusal : Refusal) : ℕ → Type 0 where
  -- the job is at fault: on standard output
  of_the_job : {status : ℕ} → is_of_the_system refusal ≡ false → Prints out err (refusal_line refusal) (status_of_refusal refusal) status
      → Refuses out err refusal status
  -- the system is at fault: on standard error, and nothing on standard output
  of_the_system : is_of_the_system refusal ≡ true → out.nothing → WasTold err (refusal_line refusal)
      → Refuses out err refusal (status_of_refusal refusal)
