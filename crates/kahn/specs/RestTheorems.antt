-- What holds of every network of lawful processes that is at rest: the statements, each of which is the
-- contract of a function in src/.
use Rattle.std.specs.Prelude.{◌≡◌, ℕ, ◌<◌, ◌≤◌, ◌⊎◌, List, length, Some}
use Rattle.snesl_data.specs.declared.fault.Fault.{Fault}
use Rattle.kahn.specs.declared.outcome.Outcome.{Outcome}
use Rattle.kahn.specs.declared.outcome.Outcome.TheVariants.{Fault as Failed}
use Rattle.kahn.specs.Processes.{Process, Event}
use Rattle.kahn.specs.Networks.{Network}
use Rattle.kahn.specs.Configurations.{Configuration, IsSound, NoneFaulted, AllEnded, IsComplete, IsLeastBlocked}
use Rattle.kahn.specs.Runs.{AtRest, Maximal}
use Rattle.kahn.specs.Faults.{IsNamedOf}
use Rattle.kahn.specs.Outcomes.{HasOutcome, AreItsFaults}
use Rattle.kahn.specs.Traffic.{IsTraffic}

module _ {State Message : Type 0} (P : Process State Message) (net : Network State) where
  -- At rest with no fault every node has ended, or there is a least edge that is full while its writer
  -- waits to write to it.
  abbrev pub EndsOrStalls : Type 0
  EndsOrStalls =
      (capacity : ℕ) (c : Configuration State Message) → IsSound P net c → AtRest P net (Some capacity) c → NoneFaulted P net c
      → AllEnded P net c ⊎ ((e : ℕ) × IsLeastBlocked P net capacity c e)

  -- a sound configuration at rest has an outcome, and no other
  abbrev pub OneOutcome : Type 0
  OneOutcome =
      (capacity : ℕ) (c : Configuration State Message) → IsSound P net c → AtRest P net (Some capacity) c
      → (o : Outcome) × HasOutcome P net capacity c o × ((other : Outcome) → HasOutcome P net capacity c other → other ≡ o)

  -- the fault that is named of a list of all faults to which nodes have come is the outcome
  abbrev pub ListedFaultIsOutcome : Type 0
  ListedFaultIsOutcome =
      (capacity : ℕ) (c : Configuration State Message) (faults : List Fault) (f : Fault)
      → AreItsFaults P net c faults → IsNamedOf faults f → HasOutcome P net capacity c (Failed f)

  -- all maximal runs from one configuration have one outcome
  abbrev pub RunsComeOutAlike : Type 0
  RunsComeOutAlike =
      (capacity : ℕ) (one two : List (Event Message)) (c d e : Configuration State Message)
      → Maximal P net (Some capacity) one c d → Maximal P net (Some capacity) two c e
      → (o q : Outcome) → HasOutcome P net capacity d o → HasOutcome P net capacity e q → o ≡ q

  -- where all nodes ended, all that was sent was received
  abbrev pub AllReceived : Type 0
  AllReceived = (c : Configuration State Message) → IsComplete P net c → (e : ℕ) → e < net.edges → c.received e ≡ c.sent e

  -- where the whole traffic fits the edges, no run stalls
  abbrev pub NeverStalls : Type 0
  NeverStalls =
      (traffic : ℕ → List Message) → IsTraffic P net traffic → (capacity : ℕ) → ((e : ℕ) → e < net.edges → length (traffic e) ≤ capacity)
      → (c : Configuration State Message) → IsSound P net c → AtRest P net (Some capacity) c → AllEnded P net c
