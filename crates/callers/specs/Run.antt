-- What a run of a program for an input text gives.
use Rattle.std.specs.Prelude.{◌≡◌, ◌⊎◌, ℕ, List, Option, None, Some, Vec}
use Rattle.std.specs.Global.{Global}
use Rattle.snesl_values.specs.Values.{Value}
use Rattle.flow_drive.specs.Config.{Config}
use Rattle.snesl_run.specs.Driven.{IsTooGreat}
use Rattle.snesl_run.specs.Meaning.{Means, is_refused, has_value}
use Rattle.snesl_run.specs.Outcome.TheVariants.{Stalled}
use Rattle.snesl_run.specs.Refusal.{Refusal}
use Rattle.snesl_run.specs.Refusal.TheVariants.{TooBig, NoMemory, Output}
use Rattle.snesl_run.specs.Runs.{outcome_of, value_line, EndsInFault, IsReported}
use Rattle.snesl_run.specs.declared.report.Report.{Report}

-- the network of the program with its input stalls over edges of 256 messages
pub record HasStalled (program input : List ℕ) : Type 0 where
  pub config : Config
  pub report : Report
  pub edge : ℕ
  pub capacity_is : config.capacity ≡ 256
  pub reported : IsReported program input config report
  pub stalled : outcome_of report ≡ Stalled edge

-- the line is that of the program's value for the input; without a line the program ends in a fault, or its network stalls
abbrev pub IsLineOf : (program input : List ℕ) → Option (Vec ℕ Global) → Type 0
IsLineOf program input None = EndsInFault program input ⊎ HasStalled program input
IsLineOf program input (Some line) = (v : Value) × Means program input (has_value v) × (line.items ≡ value_line v)

-- memory was refused; or the network is too great; or else it is what the program means for the input
abbrev pub IsRefusedFor : (program input : List ℕ) → Refusal → Type 0
IsRefusedFor program input NoMemory = Unit {0}
IsRefusedFor program input Output = Unit {0}
IsRefusedFor program input TooBig = IsTooGreat program input ⊎ Means program input (is_refused TooBig)
IsRefusedFor program input refusal = Means program input (is_refused refusal)
