-- Configurations: where a network stands in a run, and which of them are sound, complete or blocked.
use Rattle.std.specs.Prelude.{◌≡◌, ℕ, ◌+◌, ◌-◌, ◌<◌, ◌≤◌, List, [], ◌++◌, length}
use Rattle.snesl_data.specs.declared.fault.Fault.{Fault}
use Rattle.kahn.specs.declared.want.Want.TheVariants.{Write, Ended, Faulted}
use Rattle.kahn.specs.Basics.{Begins, total}
use Rattle.kahn.specs.Processes.{Process, Event, Does, reads, writes}
use Rattle.kahn.specs.Networks.{Network}

-- The state of each node, and what was sent to and received from each edge.
pub record Configuration (State Message : Type 0) : Type 0 where
  pub state : ℕ → State
  pub sent : ℕ → List Message
  pub received : ℕ → List Message

-- how many messages the edge holds
abbrev pub held : {State Message : Type 0} → Configuration State Message → ℕ → ℕ
held c e = length (c.sent e) - length (c.received e)

-- c has these states, and its edges hold these messages
abbrev pub IsConfigurationOf : {State Message : Type 0} → (ℕ → State) → (ℕ → List Message) → Configuration State Message → Type 0
IsConfigurationOf state holds c = (c.state ≡ state) × ((e : ℕ) → c.received e ++ holds e ≡ c.sent e)

module _ {State : Type 0} (net : Network State) where
  -- the nodes before any step, and empty edges
  abbrev pub start : {Message : Type 0} → Configuration State Message
  start = record { state = net.opening; sent = λ e. []; received = λ e. [] }

  -- how many messages were sent and received, all edges together
  abbrev pub moved : {Message : Type 0} → Configuration State Message → ℕ
  moved c = total (λ e. length (c.sent e) + length (c.received e)) net.edges

  -- what was received from each edge is a beginning of what was sent to it
  abbrev pub Flows : {Message : Type 0} → Configuration State Message → Type 0
  Flows c = (e : ℕ) → e < net.edges → Begins (c.received e) (c.sent e)

module _ {State Message : Type 0} (P : Process State Message) (net : Network State) where
  -- the node's state is reached from its opening state by reads and writes of its own, which read
  -- just what its edges say was received, and wrote just what they say was sent
  pub record IsReached (c : Configuration State Message) (k : ℕ) : Type 0 where
    pub history : List (Event Message)
    pub does : Does P (net.opening k) history (c.state k)
    pub received : (e : ℕ) → e < net.edges → net.reader e ≡ k → c.received e ≡ reads (net.reader_port e) history
    pub sent : (e : ℕ) → e < net.edges → net.writer e ≡ k → c.sent e ≡ writes (net.writer_port e) history

  -- Each node's state is reached, and each edge hands on what was sent to it, in order.
  pub record IsSound (c : Configuration State Message) : Type 0 where
    pub reached : (k : ℕ) → k < net.nodes → IsReached c k
    pub flows : Flows net c

  -- the writer of the edge waits to write to it, and it holds at least `capacity` messages
  abbrev pub IsBlocked : ℕ → Configuration State Message → ℕ → Type 0
  IsBlocked capacity c e = (P.want (c.state (net.writer e)) ≡ Write (net.writer_port e)) × (capacity ≤ held c e)

  -- e is the least edge that is blocked
  abbrev pub IsLeastBlocked : ℕ → Configuration State Message → ℕ → Type 0
  IsLeastBlocked capacity c e = (e < net.edges) × IsBlocked capacity c e × ((f : ℕ) → f < e → IsBlocked capacity c f → ⊥)

  -- no node has faulted
  abbrev pub NoneFaulted : Configuration State Message → Type 0
  NoneFaulted c = (k : ℕ) → k < net.nodes → (f : Fault) → P.want (c.state k) ≡ Faulted f → ⊥

  -- each node has ended
  abbrev pub AllEnded : Configuration State Message → Type 0
  AllEnded c = (k : ℕ) → k < net.nodes → P.want (c.state k) ≡ Ended

  -- Sound, and each node has ended.
  pub record IsComplete (c : Configuration State Message) : Type 0 where
    pub sound : IsSound c
    pub ended : AllEnded c
