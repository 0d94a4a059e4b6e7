-- What holds of the traffic of every network of lawful processes: the statements, each of which is the
-- contract of a function in src/.
use Rattle.std.specs.Prelude.{◌≡◌, ℕ, ◌*◌, ◌<◌, ◌≤◌, List, length}
use Rattle.kahn.specs.Basics.{Begins, total}
use Rattle.kahn.specs.Processes.{Process}
use Rattle.kahn.specs.Networks.{Network}
use Rattle.kahn.specs.Configurations.{Configuration, IsSound, NoneFaulted, IsComplete}
use Rattle.kahn.specs.Traffic.{IsTraffic, Completes, WholeTraffic, Rises}

module _ {State Message : Type 0} (P : Process State Message) (net : Network State) where
  -- each sound configuration has beginnings of the one traffic, and no fault
  abbrev pub OneTraffic : Type 0
  OneTraffic =
      (traffic : ℕ → List Message) → IsTraffic P net traffic → (c : Configuration State Message) → IsSound P net c
      → ((e : ℕ) → e < net.edges → Begins (c.sent e) (traffic e) × Begins (c.received e) (traffic e)) × NoneFaulted P net c

  -- where all nodes ended, the edges carried the one traffic
  abbrev pub AllTraffic : Type 0
  AllTraffic =
      (traffic : ℕ → List Message) → IsTraffic P net traffic → (c : Configuration State Message) → IsComplete P net c
      → (e : ℕ) → e < net.edges → (c.sent e ≡ traffic e) × (c.received e ≡ traffic e)

  -- where each node has a complete run over the same lists, these are what the edges carry
  abbrev pub CarriesFromNodes : Type 0
  CarriesFromNodes = (traffic : ℕ → List Message) → ((k : ℕ) → k < net.nodes → Completes P net traffic k) → IsTraffic P net traffic

  -- where each configuration has moved more than the one before, no more of them follow the first than twice
  -- the number of messages of the whole traffic
  abbrev pub EpochsEnd : Type 0
  EpochsEnd =
      (whole : WholeTraffic P net) (c : Configuration State Message) (more : List (Configuration State Message))
      → Rises P net c more → length more ≤ 2 * total (λ e. length (whole.end.sent e)) net.edges
