-- What holds where the nodes are shared out among several that step side by side: the statements, each of
-- which is the contract of a function in src/.
use Rattle.std.specs.Prelude.{◌≡◌, ℕ, ◌<◌, Bool, true, false, List, length, Option}
use Rattle.kahn.specs.Basics.{total}
use Rattle.kahn.specs.Processes.{Process, Event}
use Rattle.kahn.specs.Networks.{Network, AllBy}
use Rattle.kahn.specs.Configurations.{Configuration, Flows, IsReached, IsSound}
use Rattle.kahn.specs.Runs.{Run}

module _ {State Message : Type 0} (P : Process State Message) (net : Network State) where
  -- events of nodes of mine, and events of other nodes, both from c: in either order they are one run
  abbrev pub SharesAreOneRun : Type 0
  SharesAreOneRun =
      (limit : Option ℕ) (mine : ℕ → Bool) (of_mine of_others : List (Event Message)) (c d e : Configuration State Message)
      → AllBy net (λ k. mine k ≡ true) of_mine → AllBy net (λ k. mine k ≡ false) of_others
      → Run P net limit of_mine c d → Run P net limit of_others c e
      → (r : Configuration State Message) × Run P net limit of_others d r × Run P net limit of_mine e r

  -- So many shares, where node k is of share `share k`. From c the events of share i lead to `ends i`.
  module _ (limit : Option ℕ) (share : ℕ → ℕ) (shares : ℕ) (c : Configuration State Message) (events : ℕ → List (Event Message)) (ends : ℕ → Configuration State Message) where
    -- each share makes a run from c by events of its own nodes, as if no other moved
    pub record StepSideBySide : Type 0 where
      pub own : (i : ℕ) → i < shares → AllBy net (λ k. share k ≡ i) (events i)
      pub run : (i : ℕ) → i < shares → Run P net limit (events i) c (ends i)

    -- One run leads from c to r by as many events as the shares made in all, and r has of each node, and of
    -- each end of an edge, what the share of that node came to.
    pub record IsOneRun (r : Configuration State Message) : Type 0 where
      pub all : List (Event Message)
      pub run : Run P net limit all c r
      pub count : length all ≡ total (λ i. length (events i)) shares
      pub state : (k : ℕ) → share k < shares → r.state k ≡ (ends (share k)).state k
      pub received : (e : ℕ) → share (net.reader e) < shares → r.received e ≡ (ends (share (net.reader e))).received e
      pub sent : (e : ℕ) → share (net.writer e) < shares → r.sent e ≡ (ends (share (net.writer e))).sent e

  -- shares that step side by side make one run together
  abbrev pub AllSharesAreOneRun : Type 0
  AllSharesAreOneRun =
      (limit : Option ℕ) (share : ℕ → ℕ) (shares : ℕ) (c : Configuration State Message)
      → (events : ℕ → List (Event Message)) (ends : ℕ → Configuration State Message)
      → StepSideBySide limit share shares c events ends → (r : Configuration State Message) × IsOneRun limit share shares c events ends r

  -- a run of nodes of mine leaves each other node its state, and what it received and sent
  abbrev pub OthersAreUntouched : Type 0
  OthersAreUntouched =
      (limit : Option ℕ) (mine : ℕ → Bool) (events : List (Event Message)) (c d : Configuration State Message)
      → AllBy net (λ k. mine k ≡ true) events → Run P net limit events c d
      → (k : ℕ) → mine k ≡ false
      → (d.state k ≡ c.state k) × ((e : ℕ) → net.reader e ≡ k → d.received e ≡ c.received e) × ((e : ℕ) → net.writer e ≡ k → d.sent e ≡ c.sent e)

  -- a configuration is sound in which each node's state is reached, as its share kept, and the edges flow,
  -- as a meeting of the shares shows
  abbrev pub SharesAreSound : Type 0
  SharesAreSound = (c : Configuration State Message) → ((k : ℕ) → k < net.nodes → ∥ IsReached P net c k ∥₁) → Flows net c → ∥ IsSound P net c ∥₁

  -- a node's part speaks of its own state and of the lists of its own ends alone
  abbrev pub ReachedByOwnEnds : Type 0
  ReachedByOwnEnds =
      (c d : Configuration State Message) (k : ℕ) → IsReached P net c k → d.state k ≡ c.state k
      → ((e : ℕ) → e < net.edges → net.reader e ≡ k → d.received e ≡ c.received e)
      → ((e : ℕ) → e < net.edges → net.writer e ≡ k → d.sent e ≡ c.sent e)
      → IsReached P net d k
