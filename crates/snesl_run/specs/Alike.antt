-- How a program comes out does not hang on its drive, where this makes a run in steps.
use Rattle.std.specs.Prelude.{◌≡◌, ℕ, List}
use Rattle.flow_drives.specs.declared.config.Config.{Config}
use Rattle.flow_drives.specs.Configs.{IsInSteps}
use Rattle.snesl_run.specs.declared.report.Report.{Report}
use Rattle.snesl_run.specs.Runs.{view_in_report, outcome_of, IsReported}

-- Two reports tell the same: the outcome, how each node rests, and what went over each edge.
pub record TellsTheSame (report other : Report) : Type 0 where
  pub outcome : outcome_of other ≡ outcome_of report
  pub states : (view_in_report other).states ≡ (view_in_report report).states
  pub sent : (e : ℕ) → (view_in_report other).traffic.sent e ≡ (view_in_report report).traffic.sent e
  pub received : (e : ℕ) → (view_in_report other).traffic.received e ≡ (view_in_report report).traffic.received e

-- however the program is driven in steps for its input at this capacity, a report tells the same
abbrev pub ComesOutOneWay : (program input : List ℕ) → ℕ → Report → Type 0
ComesOutOneWay program input capacity report =
    (config : Config) (other : Report) → config.capacity ≡ capacity → IsInSteps config.drive → IsReported program input config other
    → TellsTheSame report other

-- and so for a report under this configuration, if its drive makes a run in steps
abbrev pub IsTheOneWay : (program input : List ℕ) → Config → Report → Type 0
IsTheOneWay program input config report =
    IsInSteps config.drive → ComesOutOneWay program input config.capacity report

-- each report of a drive in steps is so
abbrev pub HaveOneOutcome : Type 0
HaveOneOutcome =
    (program input : List ℕ) (config : Config) (report : Report) → IsReported program input config report
    → IsTheOneWay program input config report
