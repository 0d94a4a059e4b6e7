-- How a network came out that was driven until no node could step.
use Rattle.std.specs.Prelude.{◌≡◌, ◌++◌, ℕ, List, Some}
use Rattle.flow_drive.specs.Config.{Config}
use Rattle.flow_drive.specs.Drive.TheVariants.{Rings}
use Rattle.flow_drive.specs.Starts.{each_again}
use Rattle.flow_graph.specs.Configurations.{Configuration, IsSound}
use Rattle.flow_graph.specs.Networks.{network_of}
use Rattle.flow_graph.specs.Outcome.{Outcome}
use Rattle.flow_graph.specs.Outcomes.{HasOutcome}
use Rattle.flow_graph.specs.Runs.{AtRest}
use Rattle.flow_graph.specs.Signals.{Signal}
use Rattle.flow_graph.specs.Transducers.{Behaviour}
use Rattle.flow_graph.specs.Edge.{Edge}

-- Some sound configuration of this network, in which no node can step at this capacity, came out so.
pub record CameOutAs {S : Type 0} (b : Behaviour S) (states : List S) (edges : List Edge) (capacity : ℕ) (outcome : Outcome) : Type 0 where
  pub end : Configuration S Signal
  pub sound : ∥ IsSound b.process (network_of b states edges) end ∥₁
  pub rest : AtRest b.process (network_of b states edges) (Some capacity) end
  pub comes_out : HasOutcome b.process (network_of b states edges) capacity end outcome

-- a start was asked for so many threads in turn, as often as there were epochs
abbrev pub AskedInTurn : (threads : ℕ) → (before after : List ℕ) → Type 0
AskedInTurn threads before after = (epochs : ℕ) × (after ≡ before ++ each_again epochs threads)

-- so it was where each edge is a ring: for the threads of the configuration
abbrev pub AskedByRings : Config → (before after : List ℕ) → Type 0
AskedByRings config before after = config.drive ≡ Rings → AskedInTurn config.threads before after
