-- Shares over rings before and after an epoch.
use Rattle.std.specs.Prelude.{◌≡◌, ℕ, ◌<◌, true, false, List, length, map, Some, slice_index_or}
use Rattle.kahn.specs.Configurations.{Configuration, IsSound}
use Rattle.kahn.specs.Runs.{AtRest}
use Rattle.flow_messages.specs.Signals.{Signal}
use Rattle.flow_messages.specs.declared.ends.Ends.{Ghosts as EndsGhosts}
use Rattle.flow_base.specs.declared.transducer.Transducer.{Ghosts}
use Rattle.flow_networks.specs.Edges.{edge_at}
use Rattle.flow_networks.specs.Skeletons.{AreSamePlaces}
use Rattle.flow_edges.specs.declared.lanes.rings.Rings.{Rings}
use Rattle.flow_edges.specs.lanes.Rings.{SameRings, Kept}
use Rattle.flow_shares.specs.meetings.RingMeetings.{RingsJoin, ring_slots}
use Rattle.flow_shares.specs.Deals.{share_of, AreDealt}
use Rattle.flow_shares.specs.declared.share.Share.{Share}
use Rattle.flow_shares.specs.Lending.{share_nodes}
use Rattle.flow_shares.specs.Shares.{Grows, HaveMoved, HaveMovedAndLost}
use Rattle.flow_shares.specs.meetings.Joints.{states_in_shares}
use Rattle.flow_shares.specs.meetings.RoundTheorems.{net_of}
use Rattle.flow_shares.specs.meetings.EndTheorems.{EdgesHaveMet, end_configuration}
use Rattle.flow_shares.specs.meetings.Deals.{nodes_in, ends_in}
use Rattle.flow_shares.specs.meetings.SharedNetworks.{SharedNetwork, view_at, moves_by, AreFed, AreCalm, NoneCanStep}

module _ {X : Type 0} {t : Ghosts X} {u : EndsGhosts Rings} where
  -- how many messages were sent and received on all edges
  abbrev pub moved_in : SharedNetwork t → List (Share X Rings t u) → ℕ
  moved_in network shares = moves_by network (view_at shares)

  -- A share later: it has its number, its nodes in their places, and its ends.
  pub record IsLater (share later : Share X Rings t u) : Type 0 where
    pub number : later.number ≡ share.number
    pub places : AreSamePlaces share.nodes.items later.nodes.items
    pub ends : SameRings share.ends later.ends

  -- the same shares later, in order
  pub record AreLater (shares later : List (Share X Rings t u)) : Type 0 where
    pub count : length later ≡ length shares
    pub each : (s : ℕ) (d : Share X Rings t u) → s < length shares → IsLater (slice_index_or shares s d) (slice_index_or later s d)

  module _ (network : SharedNetwork t) (shares : List (Share X Rings t u)) where
    -- the ends of the share that writes edge e, and of the share that reads it; d where there is none
    abbrev pub writer_rings : ℕ → Rings → Rings
    writer_rings e d = slice_index_or (ends_in shares) (share_of network.share (edge_at network.edges e).writer) d

    abbrev pub reader_rings : ℕ → Rings → Rings
    reader_rings e d = slice_index_or (ends_in shares) (share_of network.share (edge_at network.edges e).reader) d

    -- All nodes are dealt out to these shares, with both ends of every edge, each of which holds at most the capacity.
    pub record AreOfOneGraph : Type 0 where
      pub deals : AreDealt network.share network.nodes (nodes_in shares)
      pub joined : (e : ℕ) (d : Rings) → e < length network.edges → RingsJoin (writer_rings e d) (reader_rings e d) e
      pub capacity : (e : ℕ) (d : Rings) → e < length network.edges → ring_slots (writer_rings e d) e ≡ network.capacity
      -- and no share has an end but those of its own nodes' edges
      pub only_writers : (s e : ℕ) → s < length shares → (view_at shares s).writes e ≡ true
          → (e < length network.edges) × (s ≡ share_of network.share (edge_at network.edges e).writer)
      pub only_readers : (s e : ℕ) → s < length shares → (view_at shares s).reads e ≡ true
          → (e < length network.edges) × (s ≡ share_of network.share (edge_at network.edges e).reader)

    -- the ends of every edge have met
    abbrev pub SharesHaveMet : Type 0
    SharesHaveMet = EdgesHaveMet network.share network.edges (view_at shares) network.capacity

    -- where the nodes of these shares stand, with what their ends say
    abbrev pub shares_configuration : AreOfOneGraph → Configuration t.State Signal
    shares_configuration graph = end_configuration t network.share network.edges (states_in_shares network.share network.nodes (nodes_in shares) graph.deals) (view_at shares)

    -- that is a sound configuration of the graph's network
    abbrev pub StandSound : Type 0
    StandSound = (graph : AreOfOneGraph) → ∥ IsSound t.behaviour.process (net_of network.nodes network.edges) (shares_configuration graph) ∥₁

    -- there no node can step
    abbrev pub StandAtRest : Type 0
    StandAtRest = (graph : AreOfOneGraph) → AtRest t.behaviour.process (net_of network.nodes network.edges) (Some network.capacity) (shares_configuration graph)

  module _ (network : SharedNetwork t) (shares : List (Share X Rings t u)) where
    -- those shares stand where these do
    abbrev pub StandAsBefore : List (Share X Rings t u) → Type 0
    StandAsBefore back = (graph : AreOfOneGraph network shares) (later : AreOfOneGraph network back) → shares_configuration network back later ≡ shares_configuration network shares graph

    -- The ends of every edge have met since: the shares are as they were, but that their ends may be certain of more.
    pub record HaveMetSince (after : List (Share X Rings t u)) : Type 0 where
      pub bodies : map share_nodes after ≡ map share_nodes shares
      pub ends : (s : ℕ) (d : Rings) → s < length shares → SameRings (slice_index_or (ends_in shares) s d) (slice_index_or (ends_in after) s d)
      pub kept : (s : ℕ) → s < length shares → Kept (view_at shares s) (view_at after s)
      pub graph : AreOfOneGraph network after
      pub met : SharesHaveMet network after

    -- An epoch gives the same shares back, later, with the ends of every edge met.
    pub record IsEpoch (back : List (Share X Rings t u)) : Type 0 where
      pub later : AreLater shares back
      pub graph : AreOfOneGraph network back
      pub met : SharesHaveMet network back
      -- what each share sent and received is what it had, and what came after
      pub grown : (s : ℕ) → s < length shares → Grows (view_at shares s) (view_at back s)
      -- each node of a share went on by reads and writes of its own, which are just what came to its edges; where memory was
      -- refused to the share, one message at most was received that no node read
      pub went : (s : ℕ) (d : Share X Rings t u) → s < length shares → (slice_index_or back s d).starved ≡ false
          → HaveMoved (slice_index_or shares s d).nodes.items (slice_index_or back s d).nodes.items (view_at shares s) (view_at back s)
      pub lost : (s : ℕ) (d : Share X Rings t u) → s < length shares → (slice_index_or back s d).starved ≡ true
          → HaveMovedAndLost (slice_index_or shares s d).nodes.items (slice_index_or back s d).nodes.items (view_at shares s) (view_at back s)
      -- where memory was refused to none, they stand sound
      pub sound : AreFed back → StandSound network back
      -- and the pumps tell whether a message was sent or received
      pub calm : AreFed back → AreCalm back → moved_in network back ≡ moved_in network shares
      pub busy : AreFed back → (AreCalm back → ⊥) → moved_in network shares < moved_in network back
      -- one was where a node could step by what the ends of its share were certain of
      pub moves : AreFed back → (NoneCanStep shares → ⊥) → moved_in network shares < moved_in network back
      -- where none was, they stand where they stood, and no node can step
      pub stood : AreFed back → moved_in network back ≡ moved_in network shares → StandAsBefore back
      pub rest : AreFed back → moved_in network back ≡ moved_in network shares → StandAtRest network back
