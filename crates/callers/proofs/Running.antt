-- What comes of a run that writes to an empty vector, in the caller's thread.
use Rattle.std.proofs.Common.{◌≡◌, ℕ, List, [], ◌++◌, None, Some, inl, inr, Vec, ap, ◌∙◌, subst}
use Rattle.std.specs.Global.{Global}
use Rattle.snesl_values.specs.Counted.{Counted}
use Rattle.snesl_values.specs.Fault.{Fault}
use Rattle.flow_drive.specs.Config.{Config}
use Rattle.flow_drive.specs.Drive.TheVariants.{Serial}
use Rattle.snesl_run.specs.Configs.{IsLawful, StartsThreads}
use Rattle.snesl_run.specs.Counted.{counted_inner}
use Rattle.snesl_run.specs.Outcome.TheVariants.{Value as Ended, Fault as Failed, Stalled}
use Rattle.snesl_run.specs.Refusal.{Refusal}
use Rattle.snesl_run.specs.Refusal.TheVariants.{BadConfig, NoMemory, NoThread, Output, Short}
use Rattle.snesl_run.specs.Runs.{outcome_of, value_line, IsReported, WroteFor, HasError}
use Rattle.snesl_run.specs.Streams.{WriteEffect, write_effect}
use Rattle.snesl_run.specs.declared.report.Report.{Report}
use Rattle.callers.specs.Run.{IsLineOf, IsRefusedFor}

-- what a writer took that is a vector
abbrev pub taken_by : Counted (Vec ℕ Global) → Counted (Vec ℕ Global) → WriteEffect
taken_by before after = write_effect (λ (bytes : Vec ℕ Global). Some bytes.items) before after

module _ (program input : List ℕ) (config : Config) where
  -- the line, where all nodes have ended
  pub line_written : (report : Report) (before after : Counted (Vec ℕ Global)) (line : Vec ℕ Global) → (counted_inner before).items ≡ [] → line ≡ counted_inner after
      → outcome_of report ≡ Ended → WroteFor program input (taken_by before after) (outcome_of report) → IsLineOf program input (Some line)
  line_written report before after line empty is ended wrote =
      let h = subst (WroteFor program input (taken_by before after)) ended wrote in
      (h.0, h.1, ap (λ (bytes : Vec ℕ Global). bytes.items) is ∙ h.2.0 ∙ ap (λ all. all ++ value_line h.0) empty)

  -- no line, where a fault is named
  pub fault_named : (report : Report) (out : WriteEffect) (f : Fault) → outcome_of report ≡ Failed f → WroteFor program input out (outcome_of report) → IsLineOf program input None
  fault_named report out f is wrote = inl (subst (WroteFor program input out) is wrote).0

  -- no line, where it has stalled
  pub has_stalled : (report : Report) (edge : ℕ) → config.capacity ≡ 256 → IsReported program input config report → outcome_of report ≡ Stalled edge
      → IsLineOf program input None
  has_stalled report edge capacity reported is =
      inr (record { config = config; report = report; edge = edge; capacity_is = capacity; reported = reported; stalled = is })

  module _ (lawful : IsLawful config) (serial : config.drive ≡ Serial) (out : WriteEffect) where
    -- a refusal of the run is that of the program
    pub refused_for : (refusal : Refusal) → HasError program input config out refusal → IsRefusedFor program input refusal
    refused_for NoMemory error = tt
    refused_for Output error = tt
    refused_for BadConfig error = absurd (error.0 lawful)
    refused_for NoThread error = absurd (subst StartsThreads serial error.0.0)
    refused_for Short error = absurd error.0
    refused_for refusal error = error.0
