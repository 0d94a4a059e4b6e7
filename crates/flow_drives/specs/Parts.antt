-- What is seen of the nodes and edges of a graph at rest, in one graph or in shares.
use Rattle.std.specs.Prelude.{ℕ, List, length}
use Rattle.flow_messages.specs.Ends.{View}
use Rattle.flow_base.specs.declared.transducer.Transducer.{Ghosts}
use Rattle.flow_networks.specs.declared.edge.Edge.{Edge}
use Rattle.flow_networks.specs.Graphs.{states_of, edges_of}
use Rattle.flow_networks.specs.Skeletons.{edges_in}
use Rattle.flow_drives.specs.Apart.{states_apart, traffic_apart}
use Rattle.flow_drives.specs.Edges.{traffic_in, capacity_in, share_in, shares_in}
use Rattle.flow_drives.specs.declared.parts.Gathered.{Gathered}
use Rattle.flow_drives.specs.declared.parts.Parts.{Parts}
use Rattle.flow_drives.specs.declared.parts.Parts.TheVariants.{Together, Apart}
use Rattle.flow_drives.specs.declared.ring_shares.RingShares.{RingShares}

module _ {X : Type 0} {t : Ghosts X} where
  -- what was sent and received on the edges of a graph
  abbrev pub gathered_traffic : Gathered X t → View
  gathered_traffic gathered = traffic_in (edges_of gathered.graph) gathered.all_ends

  -- the states of the nodes in shares, and what was sent and received on their edges
  abbrev pub shares_states : RingShares X t → List t.State
  shares_states shares = states_apart shares.share.items shares.places.items shares.shares.items

  abbrev pub shares_traffic : RingShares X t → View
  shares_traffic shares = traffic_apart shares.share.items (edges_in shares.skeleton) shares.shares.items

  -- the states of the nodes
  abbrev pub states_at : Parts X t → List t.State
  states_at (Together gathered) = states_of gathered.graph
  states_at (Apart shares) = shares_states shares

  -- the edges
  abbrev pub edges_at : Parts X t → List Edge
  edges_at (Together gathered) = edges_of gathered.graph
  edges_at (Apart shares) = edges_in shares.skeleton

  -- what was sent and received on them
  abbrev pub traffic_at : Parts X t → View
  traffic_at (Together gathered) = gathered_traffic gathered
  traffic_at (Apart shares) = shares_traffic shares

  -- how many messages each edge holds at most
  abbrev pub capacity_at : Parts X t → ℕ
  capacity_at (Together gathered) = capacity_in gathered.all_ends
  capacity_at (Apart shares) = shares.capacity

  -- which share had each node, where they were dealt out, and how many shares there were
  abbrev pub share_at : Parts X t → List ℕ
  share_at (Together gathered) = share_in gathered.all_ends
  share_at (Apart shares) = shares.share.items

  abbrev pub shares_at : Parts X t → ℕ
  shares_at (Together gathered) = shares_in gathered.all_ends
  shares_at (Apart shares) = length shares.shares.items

  -- the nodes stayed in shares, over rings
  abbrev pub StayInShares : Parts X t → Type 0
  StayInShares (Together gathered) = ⊥
  StayInShares (Apart shares) = Unit {0}
