-- What holds where one node makes many reads and writes before another is looked at: the statements, each of
-- which is the contract of a function in src/.
use Rattle.std.specs.Prelude.{◌≡◌, ℕ, ◌+◌, ◌-◌, ◌<◌, ◌≤◌, Bool, ◌&&◌, cond, eqb, ltb, List, [], ◌∷◌, ◌++◌, length, Option, Some, None}
use Rattle.kahn.specs.Basics.{Begins, total, updated}
use Rattle.kahn.specs.Processes.{Process, Event, Reads, Writes, Does, reads, writes}
use Rattle.kahn.specs.Networks.{Network, AllBy}
use Rattle.kahn.specs.Configurations.{Configuration, moved}
use Rattle.kahn.specs.Runs.{Run, Reaches}

-- whether an edge may hold this many; None: edges are not bounded
abbrev pub MayHold : Option ℕ → ℕ → Type 0
MayHold None count = Unit {0}
MayHold (Some capacity) count = count ≤ capacity

-- these lists, and at the edges of my own what came after
abbrev pub extended : {Message : Type 0} → (ℕ → Bool) → (ℕ → List Message) → (ℕ → List Message) → ℕ → List Message
extended own lists more e = cond (own e) (lists e ++ more e) (lists e)

module _ {State : Type 0} (net : Network State) (k : ℕ) where
  -- the edges that go to node k
  abbrev pub goes_in : ℕ → Bool
  goes_in e = ltb e net.edges && eqb (net.reader e) k

  -- the edges that come from node k
  abbrev pub comes_out : ℕ → Bool
  comes_out e = ltb e net.edges && eqb (net.writer e) k

  -- the events of node k, with the edge in the place of each port
  abbrev pub on_edges : {Message : Type 0} → List (Event Message) → List (Event Message)
  on_edges [] = []
  on_edges (Reads p m ∷ h) = Reads (net.in_edge k p) m ∷ on_edges h
  on_edges (Writes q m ∷ h) = Writes (net.out_edge k q) m ∷ on_edges h

module _ {State Message : Type 0} (net : Network State) where
  -- c with node k in state t, after it read and wrote at its ports what the events say
  abbrev pub after_history : Configuration State Message → ℕ → List (Event Message) → State → Configuration State Message
  after_history c k h t =
      record {
        state = updated c.state k t;
        sent = extended (comes_out net k) c.sent (λ e. writes (net.writer_port e) h);
        received = extended (goes_in net k) c.received (λ e. reads (net.reader_port e) h);
      }

  -- c with each node k in state `t k`, after it read and wrote at its ports what the events `h k` say
  abbrev pub after_histories : Configuration State Message → (ℕ → List (Event Message)) → (ℕ → State) → Configuration State Message
  after_histories c h t =
      record {
        state = t;
        sent = extended (λ e. ltb e net.edges) c.sent (λ e. writes (net.writer_port e) (h (net.writer e)));
        received = extended (λ e. ltb e net.edges) c.received (λ e. reads (net.reader_port e) (h (net.reader e)));
      }

module _ {State Message : Type 0} (P : Process State Message) (net : Network State) where
  -- The node's events, on its edges, are a run from c to where they lead it, and each moves one message.
  pub record IsOwnRun (limit : Option ℕ) (c : Configuration State Message) (k : ℕ) (h : List (Event Message)) (t : State) : Type 0 where
    pub own : AllBy net (λ n. n ≡ k) (on_edges net k h)
    pub count : length (on_edges net k h) ≡ length h
    pub run : Run P net limit (on_edges net k h) c (after_history net c k h t)
    pub moved : moved net (after_history net c k h t) ≡ moved net c + length h

  -- where a node came to its state by events of its own, and makes more of them, what it reads had been sent
  -- to it, and what it writes finds room: then these are a run of the network
  abbrev pub HistoriesAreRuns : Type 0
  HistoriesAreRuns =
      (limit : Option ℕ) (c : Configuration State Message) (k : ℕ) (before h : List (Event Message)) (t : State)
      → k < net.nodes → Does P (net.opening k) before (c.state k) → Does P (c.state k) h t
      → ((e : ℕ) → e < net.edges → net.reader e ≡ k → Begins (c.received e ++ reads (net.reader_port e) h) (c.sent e))
      → ((e : ℕ) → e < net.edges → net.writer e ≡ k → Begins (c.received e) (c.sent e) × MayHold limit (length (c.sent e ++ writes (net.writer_port e) h) - length (c.received e)))
      → IsOwnRun limit c k h t

  -- where each node came to its state by events of its own, and makes more of them from c, what it reads had been
  -- sent to it before any of these, and what it writes finds room without any of these reads: then all these
  -- together are a run of the network, and each event moves one message
  abbrev pub AllHistoriesAreOneRun : Type 0
  AllHistoriesAreOneRun =
      (limit : Option ℕ) (c : Configuration State Message) (before h : ℕ → List (Event Message)) (t : ℕ → State)
      → ((k : ℕ) → k < net.nodes → Does P (net.opening k) (before k) (c.state k))
      → ((k : ℕ) → k < net.nodes → Does P (c.state k) (h k) (t k))
      → ((k : ℕ) → net.nodes ≤ k → t k ≡ c.state k)
      → ((e : ℕ) → e < net.edges → Begins (c.received e ++ reads (net.reader_port e) (h (net.reader e))) (c.sent e))
      → ((e : ℕ) → e < net.edges → MayHold limit (length (c.sent e ++ writes (net.writer_port e) (h (net.writer e))) - length (c.received e)))
      → Reaches P net limit c (after_histories net c h t) × (moved net (after_histories net c h t) ≡ moved net c + total (λ k. length (h k)) net.nodes)
