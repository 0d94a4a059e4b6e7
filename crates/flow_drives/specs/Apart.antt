-- Nodes that stay in their shares, each at its place there, over the rings of the shares.
use Rattle.std.specs.Prelude.{◌≡◌, ℕ, ◌<◌, List, length, map, slice_index_or}
use Rattle.std.specs.List.{range_with_len}
use Rattle.flow_messages.specs.Ends.{View}
use Rattle.flow_messages.specs.declared.ends.Ends.{Ghosts as EndsGhosts}
use Rattle.flow_base.specs.declared.transducer.Transducer.{Ghosts}
use Rattle.flow_networks.specs.declared.edge.Edge.{Edge}
use Rattle.flow_networks.specs.Edges.{edge_at}
use Rattle.flow_networks.specs.declared.placed.Placed.{Placed}
use Rattle.flow_networks.specs.Kept.{IsBuilt}
use Rattle.flow_networks.specs.Skeletons.{FitTogether}
use Rattle.flow_networks.specs.Networks.{state_at}
use Rattle.flow_networks.specs.Places.{states_in}
use Rattle.flow_edges.specs.declared.lanes.rings.Rings.{Rings}
use Rattle.flow_edges.specs.lanes.Rings.{ends_of}
use Rattle.flow_shares.specs.meetings.RingMeetings.{RingsJoin, ring_slots}
use Rattle.flow_shares.specs.Deals.{share_of, AreDealt}
use Rattle.flow_shares.specs.declared.share.Share.{Share}
use Rattle.flow_shares.specs.meetings.Joints.{nodes_at, AreStates}
use Rattle.flow_shares.specs.meetings.Deals.{nodes_in, ends_in}
use Rattle.flow_shares.specs.meetings.SharedNetworks.{SharedNetwork, AreFed}
use Rattle.flow_drives.specs.Drives.{IsSoundAt, RestsAt}
use Rattle.flow_drives.specs.Edges.{traffic_by, AreJoined}

module _ {X : Type 0} {t : Ghosts X} where
  -- Each of these nodes lies in its share at the place that the list of places names.
  pub record AreItsPlaces (share : List ℕ) (nodes : List (Placed X t)) (dealt : List (List (Placed X t))) (deals : AreDealt share nodes dealt) (places : List ℕ) : Type 0 where
    pub count : length places ≡ length nodes
    pub each : (k : ℕ) → k < length nodes → slice_index_or places k 0 ≡ deals.place k

  -- All nodes of a network with these edges were dealt out to these shares, and have these states there.
  pub record HaveStates (share : List ℕ) (edges : List Edge) (dealt : List (List (Placed X t))) (states : List t.State) : Type 0 where
    pub nodes : List (Placed X t)
    pub fit : FitTogether nodes edges
    pub deals : AreDealt share nodes dealt
    pub are : AreStates share nodes dealt deals states

  module _ (share places : List ℕ) (dealt : List (List (Placed X t))) where
    -- the state of node k, at its place in its share
    abbrev pub state_in_place : ℕ → t.State
    state_in_place k = state_at t.behaviour (states_in (nodes_at dealt (share_of share k))) (slice_index_or places k 0)

    -- the states of all nodes, in the order of their numbers
    abbrev pub states_in_places : List t.State
    states_in_places = map state_in_place (range_with_len 0 (length places))

    -- Each node has a share, and a place there.
    pub record HavePlaces : Type 0 where
      pub shares : (k : ℕ) → k < length places → share_of share k < length dealt
      pub inside : (k : ℕ) → k < length places → slice_index_or places k 0 < length (nodes_at dealt (share_of share k))

-- the ring of each of these edges has so many slots, as its writer's end says
abbrev pub HaveSlots : (share : List ℕ) → List Edge → List Rings → ℕ → Type 0
HaveSlots share edges ends capacity =
    (e : ℕ) (d : Rings) → e < length edges → ring_slots (slice_index_or ends (share_of share (edge_at edges e).writer) d) e ≡ capacity

-- each node that was dealt out to these shares lies at the place that the list names
abbrev pub AreThePlaces : {X Y : Type 0} {t : Ghosts X} {u : EndsGhosts Y} → SharedNetwork t → List (Share X Y t u) → List ℕ → Type 0
AreThePlaces network shares places = (deals : AreDealt network.share network.nodes (nodes_in shares)) → AreItsPlaces network.share network.nodes (nodes_in shares) deals places

module _ {X : Type 0} {t : Ghosts X} {u : EndsGhosts Rings} where
  -- the states of the nodes in these shares
  abbrev pub states_apart : (share places : List ℕ) → List (Share X Rings t u) → List t.State
  states_apart share places shares = states_in_places share places (nodes_in shares)

  -- what was sent and received on these edges, as the ends of the shares say
  abbrev pub traffic_apart : List ℕ → List Edge → List (Share X Rings t u) → View
  traffic_apart share edges shares = traffic_by ends_of share edges (ends_in shares)

  -- The shares have all nodes of a network, and both ends of each of its edges, which have met. They are a sound
  -- configuration of it, where no node can step.
  pub record RestApart (share places : List ℕ) (edges : List Edge) (shares : List (Share X Rings t u)) (capacity : ℕ) : Type 0 where
    pub named : 0 < length share
    -- memory was refused to none of them
    pub fed : AreFed shares
    pub lie : HavePlaces share places (nodes_in shares)
    pub nodes : ∥ HaveStates share edges (nodes_in shares) (states_apart share places shares) ∥₁
    pub built : IsBuilt t.behaviour (states_apart share places shares) edges
    pub joined : ∥ AreJoined ends_of share edges (ends_in shares) RingsJoin capacity ∥₁
    -- its rings were made with just this capacity
    pub slots : HaveSlots share edges (ends_in shares) capacity
    pub sound : IsSoundAt t.behaviour (states_apart share places shares) edges (traffic_apart share edges shares)
    pub rest : RestsAt t.behaviour (states_apart share places shares) edges capacity (traffic_apart share edges shares)
