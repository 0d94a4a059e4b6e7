-- What the edges of a network carry in all (the histories of Kahn 1974).
use Rattle.std.specs.Prelude.{◌≡◌, ℕ, ◌*◌, ◌<◌, ◌≤◌, List, [], ◌∷◌, length, None}
use Rattle.kahn.specs.declared.want.Want.TheVariants.{Ended}
use Rattle.kahn.specs.Basics.{total}
use Rattle.kahn.specs.Processes.{Process, Event, Does, reads, writes}
use Rattle.kahn.specs.Networks.{Network}
use Rattle.kahn.specs.Configurations.{Configuration, start, moved, IsSound, IsComplete}
use Rattle.kahn.specs.Runs.{Maximal}

module _ {State Message : Type 0} (P : Process State Message) (net : Network State) where
  -- `traffic` is what the edges carry where every node ends
  abbrev pub IsTraffic : (ℕ → List Message) → Type 0
  IsTraffic traffic = (z : ℕ → State) × IsComplete P net (record { state = z; sent = traffic; received = traffic })

  -- The node has a run to its end that reads and writes just what `traffic` has at its edges.
  pub record Completes (traffic : ℕ → List Message) (k : ℕ) : Type 0 where
    pub end : State
    pub history : List (Event Message)
    pub does : Does P (net.opening k) history end
    pub ended : P.want end ≡ Ended
    pub received : (e : ℕ) → e < net.edges → net.reader e ≡ k → traffic e ≡ reads (net.reader_port e) history
    pub sent : (e : ℕ) → e < net.edges → net.writer e ≡ k → traffic e ≡ writes (net.writer_port e) history

  -- The whole traffic is finite: the events of a run to rest with no bound on the edges, which no sound
  -- configuration exceeds.
  pub record WholeTraffic : Type 0 where
    pub events : List (Event Message)
    pub end : Configuration State Message
    pub maximal : Maximal P net None events (start net) end
    pub most : (c : Configuration State Message) → IsSound P net c → moved net c ≤ moved net end
    pub twice : moved net end ≤ 2 * total (λ e. length (end.sent e)) net.edges

  -- configurations, c and then these, each of which has moved more messages than the one before; the last is sound
  abbrev pub Rises : Configuration State Message → List (Configuration State Message) → Type 0
  Rises c [] = IsSound P net c
  Rises c (d ∷ more) = (moved net c < moved net d) × Rises d more
