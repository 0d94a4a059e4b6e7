-- What holds of every run of a network of lawful processes, whatever the schedule: the statements, each
-- of which is the contract of a function in src/.
use Rattle.std.specs.Prelude.{◌≡◌, ℕ, suc, ◌+◌, ◌<◌, ◌≤◌, List, [], ◌∷◌, ◌++◌, length, Option, Some}
use Rattle.kahn.specs.Processes.{Process, Event}
use Rattle.kahn.specs.Networks.{Network}
use Rattle.kahn.specs.Configurations.{Configuration, held, start, moved, IsSound}
use Rattle.kahn.specs.Runs.{Can, next, Run, Maximal}

module _ {State Message : Type 0} (P : Process State Message) (net : Network State) where
  -- whatever the schedule, each configuration of a run is sound
  abbrev pub RunsAreSound : Type 0
  RunsAreSound =
      (limit : Option ℕ) (events : List (Event Message)) (c : Configuration State Message)
      → Run P net limit events (start net) c → IsSound P net c

  -- a step keeps a configuration sound
  abbrev pub StepsKeepSound : Type 0
  StepsKeepSound =
      (limit : Option ℕ) (c : Configuration State Message) (a : Event Message)
      → IsSound P net c → Can P net limit c a → IsSound P net (next P net c a)

  -- no edge ever holds more than the capacity
  abbrev pub RunsFit : Type 0
  RunsFit =
      (capacity : ℕ) (events : List (Event Message)) (c : Configuration State Message) → Run P net (Some capacity) events (start net) c
      → (e : ℕ) → e < net.edges → held c e ≤ capacity

  -- nothing follows the end on an edge
  abbrev pub EndIsLast : Type 0
  EndIsLast =
      (c : Configuration State Message) → IsSound P net c → (e : ℕ) → e < net.edges
      → (before after : List Message) → c.sent e ≡ before ++ P.end ∷ after → after ≡ []

  -- each step moves one message
  abbrev pub StepsMove : Type 0
  StepsMove =
      (limit : Option ℕ) (c : Configuration State Message) (a : Event Message)
      → Can P net limit c a → moved net (next P net c a) ≡ suc (moved net c)

  -- all maximal runs from one configuration end alike
  abbrev pub RunsEndAlike : Type 0
  RunsEndAlike =
      (limit : Option ℕ) (one two : List (Event Message)) (c d e : Configuration State Message)
      → Maximal P net limit one c d → Maximal P net limit two c e → d ≡ e

  -- a maximal run bounds each other run from where it began, which can go on to the same end
  abbrev pub AllRunsGoOn : Type 0
  AllRunsGoOn =
      (limit : Option ℕ) (done more : List (Event Message)) (c d r : Configuration State Message)
      → Maximal P net limit more c r → Run P net limit done c d
      → (left : List (Event Message)) × Run P net limit left d r × (length more ≡ length done + length left)
