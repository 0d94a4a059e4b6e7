-- What drives of several threads keep of a graph that they dealt out.
use Rattle.std.specs.Prelude.{◌≡◌, ℕ, ◌<◌, length}
use Rattle.flow_base.specs.declared.transducer.Transducer.{Ghosts}
use Rattle.flow_messages.specs.declared.ends.Ends.{Ghosts as EndsGhosts}
use Rattle.flow_shares.specs.declared.meetings.dealt.Dealt.{Dealt}
use Rattle.flow_shares.specs.meetings.Deals.{IsDealt}
use Rattle.flow_shares.specs.meetings.SharedNetworks.{SharedNetwork, shared_network}
use Rattle.flow_drives.specs.declared.origin.Origin.{Origin}

module _ {X : Type 0} {t : Ghosts X} where
  -- the network in which it was dealt out
  abbrev pub network_in : Origin X t → SharedNetwork t
  network_in origin = shared_network origin.graph.value origin.share.items origin.capacity

  -- What was kept is of this network.
  pub record IsOriginOf (network : SharedNetwork t) (origin : Origin X t) : Type 0 where
    pub named : 0 < length origin.share.items
    pub nodes : origin.nodes ≡ length network.nodes
    pub share : origin.share.items ≡ network.share
    pub capacity : origin.capacity ≡ network.capacity

  -- the graph was dealt out to so many shares as this was kept of it
  abbrev pub IsDealtFrom : {Y : Type 0} {u : EndsGhosts Y} → (Y → Y → ℕ → Type 0) → (Y → ℕ → ℕ) → Origin X t → ℕ → Dealt X Y t u → Type 0
  IsDealtFrom joins slots origin threads dealt = IsDealt joins slots origin.graph.value threads origin.share.items origin.capacity dealt
