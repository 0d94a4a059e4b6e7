-- Shares: some nodes of a graph, in their places, over the ends of their edges. What a share keeps, and what running
-- its nodes makes of it.
use Rattle.std.specs.Prelude.{◌≡◌, ℕ, ◌+◌, ◌*◌, ◌<◌, ◌≤◌, true, false, List, [], ◌++◌, length, slice_index_or}
use Rattle.std.specs.List.{All}
use mathlib.Core.List.{IsPrefix}
use Rattle.kahn.specs.Basics.{Begins, total}
use Rattle.kahn.specs.Processes.{Event, Does, reads, writes}
use Rattle.flow_messages.specs.Signals.{Signal}
use Rattle.flow_messages.specs.Ends.{View}
use Rattle.flow_base.specs.Visits.{TakeKinds, edge_of, IsNone, IsStuck}
use Rattle.flow_base.specs.declared.transducer.Transducer.{Ghosts}
use Rattle.flow_networks.specs.declared.placed.Placed.{Placed}
use Rattle.flow_networks.specs.Over.{is_over}
use Rattle.flow_networks.specs.Places.{number_at, placed_state, inputs_in, outputs_in}

-- the most turns of a pump
abbrev pub most_turns : ℕ
most_turns = 65536

-- row k of the table
abbrev pub row_of : List (List ℕ) → ℕ → List ℕ
row_of table k = slice_index_or table k []

-- no number stands twice in the table, in one row or in two
abbrev pub StandOnce : List (List ℕ) → Type 0
StandOnce table = (k j p q : ℕ) → p < length (row_of table k) → q < length (row_of table j) → number_at table k p ≡ number_at table j q → (k ≡ j) × (p ≡ q)

-- What was sent and received at first is a prefix of what was at last.
pub record Grows (a v : View) : Type 0 where
  pub received : (e : ℕ) → Begins (a.received e) (v.received e)
  pub sent : (e : ℕ) → Begins (a.sent e) (v.sent e)

module _ {X : Type 0} {t : Ghosts X} where
  -- the edges at the input ports, and at the output ports, of a node
  abbrev pub inputs_of : Placed X t → List ℕ
  inputs_of placed = placed.inputs.items

  abbrev pub outputs_of : Placed X t → List ℕ
  outputs_of placed = placed.outputs.items

  -- The ends of the edges at its ports are there, and its output edges take items of their ports' kinds.
  pub record HasItsEnds (view : View) (placed : Placed X t) : Type 0 where
    pub reads : All (λ e. view.reads e ≡ true) (inputs_of placed)
    pub writes : All (λ e. view.writes e ≡ true) (outputs_of placed)
    pub kinds : TakeKinds (outputs_of placed) (t.behaviour.kind_out (t.behaviour.opening (placed_state placed))) view

  -- It came to where it stands by reads and writes that are just what its edges received and sent.
  pub record HasHistory (view : View) (placed : Placed X t) : Type 0 where
    pub history : List (Event Signal)
    pub does : Does t.behaviour.process (t.behaviour.opening (placed_state placed)) history (placed_state placed)
    pub received : (p : ℕ) → p < length (inputs_of placed) → view.received (edge_of (inputs_of placed) p) ≡ reads p history
    pub sent : (q : ℕ) → q < length (outputs_of placed) → view.sent (edge_of (outputs_of placed) q) ≡ writes q history

  -- its history is that of its own edges
  abbrev pub IsOwn : View → Placed X t → Type 0
  IsOwn view placed = ∥ HasHistory view placed ∥₁

  -- No two ports of these nodes read one edge, and no two write one.
  pub record AreApart (nodes : List (Placed X t)) : Type 0 where
    pub inputs : StandOnce (inputs_in nodes)
    pub outputs : StandOnce (outputs_in nodes)

  -- no node can step by what its ends are certain of
  abbrev pub AreStuck : View → List (Placed X t) → Type 0
  AreStuck view nodes = All (λ placed. IsStuck (inputs_of placed) (outputs_of placed) view (t.behaviour.process.want (placed_state placed))) nodes

  -- each has ended or has faulted
  abbrev pub AreOver : List (Placed X t) → Type 0
  AreOver nodes = All (λ placed. is_over (t.behaviour.process.want (placed_state placed)) ≡ true) nodes

  -- one of them may take memory at its next step
  abbrev pub TakesMemory : List (Placed X t) → Type 0
  TakesMemory nodes = All (λ placed. t.behaviour.takes_memory (placed_state placed) ≡ false) nodes → ⊥

  -- Each node went on by reads and writes of its own, which are what came to the lists of its edges.
  pub record HaveMoved (nodes later : List (Placed X t)) (a v : View) : Type 0 where
    pub history : ℕ → List (Event Signal)
    pub does : (k : ℕ) (d : Placed X t) → k < length nodes → Does t.behaviour.process (placed_state (slice_index_or nodes k d)) (history k) (placed_state (slice_index_or later k d))
    pub received : (k p : ℕ) (d : Placed X t) → k < length nodes → let edges = inputs_of (slice_index_or nodes k d) in p < length edges →
        v.received (edge_of edges p) ≡ a.received (edge_of edges p) ++ reads p (history k)
    pub sent : (k q : ℕ) (d : Placed X t) → k < length nodes → let edges = outputs_of (slice_index_or nodes k d) in q < length edges →
        v.sent (edge_of edges q) ≡ a.sent (edge_of edges q) ++ writes q (history k)
    pub other_received : (e : ℕ) → All (λ placed. IsNone (inputs_of placed) e) nodes → v.received e ≡ a.received e
    pub other_sent : (e : ℕ) → All (λ placed. IsNone (outputs_of placed) e) nodes → v.sent e ≡ a.sent e

  -- Ends of edges at no port of these nodes lost nothing of which they were certain.
  pub record SpareOthers (nodes : List (Placed X t)) (a v : View) : Type 0 where
    pub coming : (e : ℕ) → All (λ placed. IsNone (inputs_of placed) e) nodes → IsPrefix (a.coming e) (v.coming e)
    pub room : (e : ℕ) → All (λ placed. IsNone (outputs_of placed) e) nodes → a.room e ≤ v.room e

  -- how many messages they read and wrote in all
  abbrev pub count_of : {nodes later : List (Placed X t)} {a v : View} → HaveMoved nodes later a v → ℕ
  count_of {nodes} {later} {a} {v} moved = total (λ k. length (moved.history k)) (length nodes)

  -- They moved at least one message for each `idle_turns` of so many turns.
  pub record HaveMovedForTurns (turns idle_turns : ℕ) (nodes later : List (Placed X t)) (a v : View) : Type 0 where
    pub moved : HaveMoved nodes later a v
    pub often : turns < idle_turns * (count_of moved + 1)

  -- They moved until memory was refused: then one message in all may have been received that no node read.
  pub record HaveMovedAndLost (nodes later : List (Placed X t)) (a v : View) : Type 0 where
    pub history : ℕ → List (Event Signal)
    pub lost : ℕ  -- the edge that may have lost a message
    pub does : (k : ℕ) (d : Placed X t) → k < length nodes → Does t.behaviour.process (placed_state (slice_index_or nodes k d)) (history k) (placed_state (slice_index_or later k d))
    pub received : (k p : ℕ) (d : Placed X t) → k < length nodes → let edges = inputs_of (slice_index_or nodes k d) in p < length edges → let before =
        a.received (edge_of edges p) ++ reads p (history k) in Begins before (v.received (edge_of edges p))
        × (length (v.received (edge_of edges p)) ≤ length before + 1) × ((edge_of edges p ≡ lost → ⊥) → v.received (edge_of edges p) ≡ before)
    pub sent : (k q : ℕ) (d : Placed X t) → k < length nodes → let edges = outputs_of (slice_index_or nodes k d) in q < length edges →
        v.sent (edge_of edges q) ≡ a.sent (edge_of edges q) ++ writes q (history k)
    pub other_received : (e : ℕ) → All (λ placed. IsNone (inputs_of placed) e) nodes → v.received e ≡ a.received e
    pub other_sent : (e : ℕ) → All (λ placed. IsNone (outputs_of placed) e) nodes → v.sent e ≡ a.sent e
