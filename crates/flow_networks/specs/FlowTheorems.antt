-- What holds of the lawful flows of every graph: the statements, each of which is the contract of a function in src/.
use Rattle.std.specs.Prelude.{◌≡◌, ℕ, ◌<◌, ◌≤◌, List, length, Option, Some}
use Rattle.kahn.specs.Basics.{Begins}
use Rattle.kahn.specs.Processes.{Event}
use Rattle.kahn.specs.Networks.{Network}
use Rattle.kahn.specs.Configurations.{Configuration, start, IsSound, AllEnded, NoneFaulted, IsComplete}
use Rattle.kahn.specs.Runs.{Run, AtRest, Maximal}
use Rattle.kahn.specs.Traffic.{IsTraffic}
use Rattle.flow_messages.specs.Cells.{Cell}
use Rattle.flow_messages.specs.Signals.{Signal}
use Rattle.flow_base.specs.Transducers.{Behaviour, closed}
use Rattle.flow_base.specs.RowPorts.{RowsOnPorts}
use Rattle.flow_networks.specs.declared.edge.Edge.{Edge}
use Rattle.flow_networks.specs.Networks.{AreOpened, network_of}
use Rattle.flow_networks.specs.Flows.{IsLawfulFlow, RowsHold, HasCarried}

module _ {S : Type 0} (b : Behaviour S) (states : List S) (edges : List Edge) where
  abbrev net : Network S
  net = network_of b states edges

  -- where the nodes are in their opening states, bodies over which each node's row holds are a lawful flow
  abbrev pub RowsMakeAFlow : Type 0
  RowsMakeAFlow = AreOpened b states → (bodies : ℕ → List Cell) → RowsHold b states edges bodies → IsLawfulFlow b states edges bodies

  -- and where rows speak of the bodies at ports alone, each node's row holds over the bodies of a lawful flow
  abbrev pub FlowHasRows : Type 0
  FlowHasRows = RowsOnPorts b → AreOpened b states → (bodies : ℕ → List Cell) → IsLawfulFlow b states edges bodies → RowsHold b states edges bodies

  -- the network carries a lawful flow: on each edge the closed list of its body
  abbrev pub FlowIsCarried : Type 0
  FlowIsCarried = (bodies : ℕ → List Cell) → IsLawfulFlow b states edges bodies → IsTraffic b.process net (λ e. closed (bodies e))

  -- each sound configuration has prefixes of a lawful flow on all edges, and no fault
  abbrev pub FlowIsBegun : Type 0
  FlowIsBegun =
      (bodies : ℕ → List Cell) → IsLawfulFlow b states edges bodies → (c : Configuration S Signal) → IsSound b.process net c
      → ((e : ℕ) → e < length edges → Begins (c.sent e) (closed (bodies e)) × Begins (c.received e) (closed (bodies e))) × NoneFaulted b.process net c

  -- where all nodes ended, the edges carried just the lawful flow
  abbrev pub EndedHasFlow : Type 0
  EndedHasFlow =
      (bodies : ℕ → List Cell) → IsLawfulFlow b states edges bodies → (c : Configuration S Signal) → IsComplete b.process net c
      → HasCarried edges bodies c

  -- where each closed list has at most as many messages as an edge may hold, all nodes have ended wherever none can step
  abbrev pub FlowNeverStalls : Type 0
  FlowNeverStalls =
      (bodies : ℕ → List Cell) → IsLawfulFlow b states edges bodies
      → (capacity : ℕ) → ((e : ℕ) → e < length edges → length (closed (bodies e)) ≤ capacity)
      → (c : Configuration S Signal) → IsSound b.process net c → AtRest b.process net (Some capacity) c → AllEnded b.process net c

  -- and each maximal run from the start ends with all nodes ended, and the edges carried the lawful flow
  abbrev pub FlowRunsToEnd : Type 0
  FlowRunsToEnd =
      (bodies : ℕ → List Cell) → IsLawfulFlow b states edges bodies
      → (capacity : ℕ) → ((e : ℕ) → e < length edges → length (closed (bodies e)) ≤ capacity)
      → (events : List (Event Signal)) (c : Configuration S Signal) → Maximal b.process net (Some capacity) events (start net) c
      → AllEnded b.process net c × HasCarried edges bodies c

  -- where all nodes ended, the edges carried a lawful flow
  abbrev pub EndedIsLawful : Type 0
  EndedIsLawful =
      (c : Configuration S Signal) → IsComplete b.process net c
      → (bodies : ℕ → List Cell) × IsLawfulFlow b states edges bodies × HasCarried edges bodies c

  -- where a run from the start, whatever the edges may hold, ended all nodes, the edges carried a lawful flow
  abbrev pub EndedRunIsLawful : Type 0
  EndedRunIsLawful =
      (limit : Option ℕ) (events : List (Event Signal)) (c : Configuration S Signal) → Run b.process net limit events (start net) c → AllEnded b.process net c
      → (bodies : ℕ → List Cell) × IsLawfulFlow b states edges bodies × HasCarried edges bodies c

  -- two lawful flows are the same on each edge
  abbrev pub OneFlow : Type 0
  OneFlow =
      (one other : ℕ → List Cell) → IsLawfulFlow b states edges one → IsLawfulFlow b states edges other
      → (e : ℕ) → e < length edges → one e ≡ other e
