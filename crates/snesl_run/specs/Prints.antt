-- What the program prints for a job, and its exit status.
use Rattle.std.specs.Prelude.{ℕ, List, Option, Result, MatchResult}
use Rattle.std.specs.declared.alloc.AllocError.{AllocError}
use Rattle.std.specs.declared.alloc.Global.{Global}
use Rattle.std.specs.declared.vec.Vec.{Vec}
use Rattle.snesl_data.specs.declared.counted.Counted.{Counted}
use Rattle.snesl_data.specs.declared.refusal.Refusal.{Refusal}
use Rattle.snesl_data.specs.declared.refusal.Refusal.TheVariants.{BadConfig, NoMemory, Read}
use Rattle.snesl_data.specs.Values.{Value}
use Rattle.kahn.specs.declared.outcome.Outcome.{Outcome}
use Rattle.kahn.specs.declared.outcome.Outcome.TheVariants.{Value as Ended, Fault as Failed, Stalled}
use Rattle.flow_drives.specs.declared.config.Config.{Config}
use Rattle.flow_drives.specs.Configs.{IsLawful}
use Rattle.snesl_meaning.specs.Meaning.{Means, has_value}
use Rattle.snesl_run.specs.command_line.Settings.{AreLawful, SaysSo}
use Rattle.snesl_flatten.specs.network.Driven.{WasRefused}
use Rattle.snesl_run.specs.console.Job.{IsJob}
use Rattle.snesl_run.specs.console.Streams.{WriteEffect, ReadEffect, write_effect, Lent, writing_of, reading_of}
use Rattle.snesl_run.specs.console.Lines.{fault_line, stalled_line, Prints, PrintsLine, Refuses}
use Rattle.snesl_run.specs.console.Reads.{IsRead, IsBrokenOff, HoldsOfJob}
use Rattle.snesl_run.specs.declared.report.Report.{Report}
use Rattle.snesl_run.specs.Runs.{outcome_of, value_line, EndsInFault, IsReported}

-- What is printed for how a network came out, and the exit status: the program's value; a fault, which need not be that of the
-- program, where it ends in one; or that the network has stalled. Where the line was cut off, that is said, and the status is
-- that of a failed output.
abbrev pub PrintsOutcome : (program input : List ℕ) → WriteEffect → WriteEffect → Outcome → ℕ → Type 0
PrintsOutcome program input out err Ended status = (v : Value) × Means program input (has_value v) × Prints out err (value_line v) 0 status
PrintsOutcome program input out err (Failed f) status = EndsInFault program input × Prints out err (fault_line f.kind f.at) 2 status
PrintsOutcome program input out err (Stalled e) status = Prints out err stalled_line 3 status

-- what is printed for a program with an input text, driven so, and the exit status
pub data PrintedFor (config : Config) (program input : List ℕ) (out err : WriteEffect) : ℕ → Type 0 where
  -- how its network came out, as a report tells
  came_out : {status : ℕ} (report : Report) → IsReported program input config report
      → PrintsOutcome program input out err (outcome_of report) status → PrintedFor config program input out err status
  -- it was refused
  refused : {status : ℕ} (refusal : Refusal) → WasRefused program input config refusal → Refuses out err refusal status
      → PrintedFor config program input out err status

-- what is printed for a job, and the exit status: that of its program with its input text, of which nothing is cut
abbrev pub Printed : Config → List ℕ → WriteEffect → WriteEffect → ℕ → Type 0
Printed config job out err status =
    (program : List ℕ) × (input : List ℕ) × IsJob job program input × PrintedFor config program input out err status

-- what becomes of a job under this configuration: what was read, written and said, and the exit status
pub data IsJobAnswered (config : Config) (reader : ReadEffect) (out err : WriteEffect) : ℕ → Type 0 where
  -- what was read decides the answer of the job, which was printed
  answered : {status : ℕ} (read : List ℕ) → IsRead reader read → HoldsOfJob reader read (λ job. Printed config job out err status)
      → IsJobAnswered config reader out err status
  -- the job could not be read any further, and what was read decides no answer
  unread : {status : ℕ} (read : List ℕ) → IsBrokenOff reader read → Refuses out err Read status → IsJobAnswered config reader out err status
  -- memory was refused to the job
  out_of_memory : {status : ℕ} (read : List ℕ) → IsRead reader read → Refuses out err NoMemory status
      → IsJobAnswered config reader out err status

-- what the program answers where it is given these words
pub data Answered (words : List (List ℕ)) (reader : ReadEffect) (out err : WriteEffect) : ℕ → Type 0 where
  -- the words say no lawful configuration, which is said before anything is read
  words_refused : {status : ℕ} → ¬ AreLawful words → reader.nothing → Refuses out err BadConfig status → Answered words reader out err status
  -- memory was refused to the words
  words_lost : {status : ℕ} → reader.nothing → Refuses out err NoMemory status → Answered words reader out err status
  -- the job is answered under the configuration that they say
  under : {status : ℕ} (config : Config) → SaysSo words config → IsLawful config → IsJobAnswered config reader out err status
      → Answered words reader out err status

-- the same of writers before a call and after it, by the bytes that they hold
module _ {W E : Type 0} (contents : W → Option (List ℕ)) (err_contents : E → Option (List ℕ)) (out out' : Counted W) (err err' : Counted E) where
  -- what is printed of a refusal, and the exit status
  abbrev pub PrintsRefusal : Refusal → ℕ → Type 0
  PrintsRefusal refusal status = Refuses (write_effect contents out out') (write_effect err_contents err err') refusal status

  -- what is printed of a line, and the exit status; where there is none, memory was refused
  abbrev pub PrintsMade : Result (Vec ℕ Global) AllocError → ℕ → ℕ → Type 0
  PrintsMade line code status =
      MatchResult line (λ line. PrintsLine contents err_contents out out' err err' line.items code status) (λ _. PrintsRefusal NoMemory status)

-- the same of two writers that a call is lent
module _ {W E : Type 0} (contents : W → Option (List ℕ)) (err_contents : E → Option (List ℕ)) (out : Lent (Counted W)) (err : Lent (Counted E)) where
  -- what is printed for a program with an input text, driven so
  abbrev pub PrintsAnswer : Config → List ℕ → List ℕ → ℕ → Type 0
  PrintsAnswer config program input status = PrintedFor config program input (writing_of contents out) (writing_of err_contents err) status

  -- and of a reader, by the bytes that it has left
  module _ {R : Type 0} (remaining : R → Option (List ℕ)) (job : Lent (Counted R)) where
    -- what becomes of a job under this configuration
    abbrev pub AnswersJob : Config → ℕ → Type 0
    AnswersJob config status = IsJobAnswered config (reading_of remaining job) (writing_of contents out) (writing_of err_contents err) status

    -- what the program answers where it is given these words
    abbrev pub AnswersWords : List (List ℕ) → ℕ → Type 0
    AnswersWords words status = Answered words (reading_of remaining job) (writing_of contents out) (writing_of err_contents err) status
