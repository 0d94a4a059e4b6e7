-- Schedules, which name nodes that have one turn each, and where runs lead after one: the statement is the contract of a
-- function in src/theorems.rt.
use Rattle.std.specs.Prelude.{◌≡◌, ℕ, List, [], ◌∷◌, Bool, Some}
use Rattle.kahn.specs.Processes.{Event}
use Rattle.kahn.specs.Networks.{Network}
use Rattle.kahn.specs.Configurations.{Configuration, start}
use Rattle.kahn.specs.Runs.{Maximal}
use Rattle.kahn.specs.Turns.{Turn}
use Rattle.flow_messages.specs.Signals.{Signal}
use Rattle.flow_base.specs.Transducers.{Behaviour}
use Rattle.flow_networks.specs.declared.edge.Edge.{Edge}
use Rattle.flow_networks.specs.Laws.{IsNetwork}
use Rattle.flow_networks.specs.Networks.{network_of}

module _ {S : Type 0} (b : Behaviour S) (net : Network S) (capacity : ℕ) where
  -- the turns of the nodes that the schedule names, one after another, lead from c to d
  abbrev pub IsScheduled : List ℕ → Configuration S Signal → Configuration S Signal → Type 0
  IsScheduled [] c d = d ≡ c
  IsScheduled (k ∷ more) c d =
      (between : Configuration S Signal) × (stepped : Bool)
      × Turn b.process net (Some capacity) k c between stepped × IsScheduled more between d

  -- A maximal run leads from c to `last`, and none leads elsewhere.
  pub record EndsAt (c last : Configuration S Signal) : Type 0 where
    pub run : (left : List (Event Signal)) × Maximal b.process net (Some capacity) left c last
    pub only : (left : List (Event Signal)) (d : Configuration S Signal) → Maximal b.process net (Some capacity) left c d → d ≡ last

-- whatever a schedule did first, maximal runs from there end where one from the start ends
abbrev pub SchedulesEndAlike : {S : Type 0} → Behaviour S → Type 0
SchedulesEndAlike {S} b =
    (capacity : ℕ) (states : List S) (edges : List Edge) → IsNetwork b states edges
    → let net = network_of b states edges in
    (schedule : List ℕ) (c last : Configuration S Signal) (events : List (Event Signal))
    → IsScheduled b net capacity schedule (start net) c → Maximal b.process net (Some capacity) events (start net) last
    → EndsAt b net capacity c last
