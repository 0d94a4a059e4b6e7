-- What the nodes of a graph at rest want, and how it came out.
use Rattle.std.specs.Prelude.{ℕ, ◌+◌, ◌<◌, ◌≤◌, length, Option, MatchOption}
use Rattle.snesl_data.specs.declared.fault.Fault.{Fault}
use Rattle.kahn.specs.declared.outcome.Outcome.{Outcome}
use Rattle.kahn.specs.Configurations.{NoneFaulted}
use Rattle.kahn.specs.Outcomes.{NamesFault}
use Rattle.flow_messages.specs.Ends.{View}
use Rattle.flow_base.specs.declared.transducer.Transducer.{Ghosts}
use Rattle.flow_networks.specs.Networks.{network_of, configuration_of}
use Rattle.flow_drives.specs.declared.rested.Rested.{Rested}
use Rattle.flow_drives.specs.Drives.{WantsToWrite, IsFirstToWrite, IsSoundAt, RestsAt, ComesOut}
use Rattle.flow_drives.specs.Resteds.{rested_states, rested_edges, rested_capacity, traffic_of, IsOverRings}

module _ {X : Type 0} {t : Ghosts X} (rested : Rested X t) where
  -- it is a sound configuration
  abbrev pub RestsSound : Type 0
  RestsSound = IsSoundAt t.behaviour (rested_states rested) (rested_edges rested) (traffic_of rested)

  -- no node can step
  abbrev pub RestsStill : Type 0
  RestsStill = RestsAt t.behaviour (rested_states rested) (rested_edges rested) (rested_capacity rested) (traffic_of rested)

  -- no edge holds more than its capacity
  abbrev pub KeepsCapacity : Type 0
  KeepsCapacity = (e : ℕ) → length ((traffic_of rested).sent e) ≤ length ((traffic_of rested).received e) + rested_capacity rested

  -- it came out so
  abbrev pub RestedComesOut : Outcome → Type 0
  RestedComesOut outcome = ComesOut t.behaviour (rested_states rested) (rested_edges rested) (rested_capacity rested) (traffic_of rested) outcome

  -- its nodes were gathered: it was not driven over rings
  abbrev pub IsGathered : Type 0
  IsGathered = IsOverRings rested → ⊥

  -- this is the fault that is named of all to which nodes have come, and none where none has
  abbrev pub NamesStandingFault : Option Fault → Type 0
  NamesStandingFault named =
      (view : View) → let net = network_of t.behaviour (rested_states rested) (rested_edges rested) in
      let c = configuration_of t.behaviour (rested_states rested) view in
      MatchOption named (NoneFaulted t.behaviour.process net c) (λ fault. NamesFault t.behaviour.process net c fault)

  -- this is the first edge whose writer wants to write to it, and none where no writer does
  abbrev pub NamesFirstToWrite : Option ℕ → Type 0
  NamesFirstToWrite named =
      MatchOption named ((e : ℕ) → e < length (rested_edges rested) → WantsToWrite t.behaviour (rested_states rested) (rested_edges rested) e → ⊥)
      (λ e. IsFirstToWrite t.behaviour (rested_states rested) (rested_edges rested) e)
