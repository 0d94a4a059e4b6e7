-- A program that ends at one capacity ends at each greater one.
use Rattle.std.specs.Prelude.{◌≡◌, ℕ, ◌≤◌, List}
use Rattle.kahn.specs.declared.outcome.Outcome.TheVariants.{Value as Ended}
use Rattle.flow_drives.specs.declared.config.Config.{Config}
use Rattle.flow_drives.specs.Configs.{IsInSteps}
use Rattle.snesl_flatten.specs.Networks.{StreamNodeState}
use Rattle.snesl_flatten.specs.network.Driven.{CameToRest, HaveEnded}
use Rattle.snesl_flatten.specs.network.NodesAtRest.{FinalView}
use Rattle.snesl_run.specs.declared.report.Report.{Report}
use Rattle.snesl_run.specs.Alike.{TellsTheSame}
use Rattle.snesl_run.specs.Runs.{outcome_of, IsReported}

-- All nodes of the other have ended, and it stands as this one: its nodes, and what went over each edge.
pub record HasEndedAs (rest other : FinalView StreamNodeState) : Type 0 where
  pub ended : HaveEnded other
  pub states : other.states ≡ rest.states
  pub sent : (e : ℕ) → other.traffic.sent e ≡ rest.traffic.sent e
  pub received : (e : ℕ) → other.traffic.received e ≡ rest.traffic.received e

-- where all nodes of a program's network have ended at one capacity they end so at each greater one, by drives in steps
abbrev pub EndedNetworksStay : Type 0
EndedNetworksStay =
    (program input : List ℕ) (config greater : Config) (rest other : FinalView StreamNodeState)
    → IsInSteps config.drive → IsInSteps greater.drive → config.capacity ≤ greater.capacity
    → CameToRest program input config rest → HaveEnded rest → CameToRest program input greater other
    → HasEndedAs rest other

-- where a report at one capacity is of a value, a report at each greater one tells the same, by drives in steps
abbrev pub EndingStays : Type 0
EndingStays =
    (program input : List ℕ) (config greater : Config) (report other : Report)
    → IsInSteps config.drive → IsInSteps greater.drive → config.capacity ≤ greater.capacity
    → IsReported program input config report → outcome_of report ≡ Ended → IsReported program input greater other
    → TellsTheSame report other
