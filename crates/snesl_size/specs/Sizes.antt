-- The least capacity at which a program ends.
use Rattle.std.specs.Prelude.{◌≡◌, ◌≢◌, ℕ, ◌+◌, ◌<◌, ◌≤◌, List, Option, Some, None}
use Rattle.snesl_data.specs.declared.fault.Fault.{Fault}
use Rattle.snesl_data.specs.declared.refusal.Refusal.{Refusal}
use Rattle.kahn.specs.declared.outcome.Outcome.TheVariants.{Value as Ended, Stalled}
use Rattle.flow_messages.specs.Limits.{greatest_capacity}
use Rattle.flow_drives.specs.declared.config.Config.{Config}
use Rattle.flow_drives.specs.declared.config.Drive.TheVariants.{Serial}
use Rattle.flow_drives.specs.Configs.{IsInSteps}
use Rattle.snesl_flatten.specs.Networks.{StreamNodeState}
use Rattle.snesl_flatten.specs.network.Driven.{CameToRest, HaveEnded, IsNamed, WasRefused}
use Rattle.snesl_flatten.specs.network.NodesAtRest.{FinalView, final_view}
use Rattle.snesl_run.specs.declared.report.Report.{Report}
use Rattle.snesl_run.specs.Runs.{view_in_report, outcome_of, CameOut, EndsInFault, IsReported}
use Rattle.snesl_size.specs.declared.size.Size.{Size}
use Rattle.snesl_size.specs.declared.size.Size.TheVariants.{Ends, Faults, NeverEnds}
use Rattle.snesl_size.specs.Staying.{HasEndedAs}

module _ (program input : List ℕ) where
  -- A drive in one thread has left the program's network so, at this capacity.
  pub record IsLeft (capacity : ℕ) (rest : FinalView StreamNodeState) : Type 0 where
    pub config : Config
    pub serial : config.drive ≡ Serial
    pub capacity_is : config.capacity ≡ capacity
    pub came : CameToRest program input config rest

  -- no report is of a value, of a drive in steps at a capacity below this one
  abbrev pub EndsAtNoneBelow : ℕ → Type 0
  EndsAtNoneBelow capacity =
      (config : Config) (report : Report) → IsInSteps config.drive → config.capacity < capacity → IsReported program input config report
      → outcome_of report ≢ Ended

  -- The network has ended so at this capacity, and the program ends at no lesser one.
  pub record IsLeast (capacity : ℕ) (rest : FinalView StreamNodeState) : Type 0 where
    pub left : IsLeft capacity rest
    pub ended : HaveEnded rest
    pub none_below : EndsAtNoneBelow capacity
    -- from there on a report of a drive in steps is of a value, and its network has ended as this one
    pub from_there_on : (config : Config) (report : Report) → IsInSteps config.drive → capacity ≤ config.capacity
        → IsReported program input config report → (outcome_of report ≡ Ended) × HasEndedAs rest (view_in_report report)

  -- A drive in one thread, at one message less than this capacity, has stalled where this edge was full and its writer waited.
  pub record StalledBelow (capacity edge : ℕ) : Type 0 where
    pub below : ℕ
    pub one_less : below + 1 ≡ capacity
    pub rest : FinalView StreamNodeState
    pub left : IsLeft below rest
    pub stalled : CameOut rest (Stalled edge)

  -- the edge that was full at one message less, if there is a capacity so small
  abbrev pub IsFullBelow : ℕ → Option ℕ → Type 0
  IsFullBelow capacity (Some edge) = StalledBelow capacity edge
  IsFullBelow capacity None = capacity ≡ 1

  -- The program ends in a fault, and this is the fault that is named at some capacity by a drive in one thread.
  pub record FaultsSo (fault : Fault) : Type 0 where
    pub capacity : ℕ
    pub rest : FinalView StreamNodeState
    pub left : IsLeft capacity rest
    pub named : IsNamed rest fault
    pub faults : EndsInFault program input
    -- no report is of a value, of whatever drive at whatever capacity
    pub never : (config : Config) (report : Report) → IsReported program input config report → outcome_of report ≢ Ended

  -- the program ends from this capacity on, and at no lesser one, where at one less this edge was full; or it ends in a fault; or at
  -- no capacity that there is
  abbrev pub IsSizeOf : Size → Type 0
  IsSizeOf (Ends least full rested) = IsLeast least (final_view rested) × IsFullBelow least full
  IsSizeOf (Faults fault) = FaultsSo fault
  IsSizeOf NeverEnds = EndsAtNoneBelow (greatest_capacity + 1)

  -- a drive of it in one thread with this chunk is refused so, at whatever capacity
  abbrev pub IsRefusedAtAll : (chunk : ℕ) → Refusal → Type 0
  IsRefusedAtAll chunk refusal = (config : Config) → config.drive ≡ Serial → config.chunk ≡ chunk → WasRefused program input config refusal
