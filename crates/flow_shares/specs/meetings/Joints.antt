-- What shares make together: one configuration of the network of their graph.
use Rattle.std.specs.Prelude.{◌≡◌, ℕ, ◌<◌, false, cond, ltb, List, [], length, map, slice_index_or, None}
use Rattle.flow_messages.specs.Ends.{View}
use Rattle.flow_base.specs.declared.transducer.Transducer.{Ghosts}
use Rattle.flow_networks.specs.declared.edge.Edge.{Edge}
use Rattle.flow_networks.specs.declared.placed.Placed.{Placed}
use Rattle.flow_networks.specs.Edges.{edge_at}
use Rattle.flow_networks.specs.Places.{placed_state}
use Rattle.flow_networks.specs.Networks.{state_at}
use Rattle.flow_boxes.specs.Contents.{Contents}
use Rattle.flow_boxes.specs.Rounds.{IsLinked, IsCarried}
use Rattle.flow_shares.specs.Deals.{share_of, AreDealt}

-- no ends
abbrev pub no_ends : View
no_ends = record { kind = λ e. None; sent = λ e. []; received = λ e. []; coming = λ e. []; room = λ e. 0; writes = λ e. false; reads = λ e. false }

-- no boxes
abbrev pub no_contents : Contents
no_contents = record { ends = no_ends; leaving = λ e. []; count = 0; capacity = 0 }

-- the boxes of share s
abbrev pub boxes_at : List Contents → ℕ → Contents
boxes_at boxes s = slice_index_or boxes s no_contents

-- what share s sees, where the shares have these boxes
abbrev pub views_of : List Contents → ℕ → View
views_of boxes s = (boxes_at boxes s).ends

-- share s sees `view_at s`
module _ (share : List ℕ) (edges : List Edge) (view_at : ℕ → View) where
  -- what the share that writes edge e sees, and what the share that reads it sees
  abbrev pub writer_view : ℕ → View
  writer_view e = view_at (share_of share (edge_at edges e).writer)

  abbrev pub reader_view : ℕ → View
  reader_view e = view_at (share_of share (edge_at edges e).reader)

  -- y where there is an edge e, and else n
  abbrev at_edge : {Y : Type 0} → ℕ → Y → Y → Y
  at_edge e y n = cond (ltb e (length edges)) y n

  -- what was sent and received on each edge, whichever shares its ends lie in
  abbrev pub end_view : View
  end_view = record {
    sent = λ e. at_edge e ((writer_view e).sent e) [];
    received = λ e. at_edge e ((reader_view e).received e) [];
    coming = λ e. at_edge e ((reader_view e).coming e) [];
    room = λ e. at_edge e ((writer_view e).room e) 0;
    kind = λ e. at_edge e ((writer_view e).kind e) None;
    writes = λ e. at_edge e ((writer_view e).writes e) false;
    reads = λ e. at_edge e ((reader_view e).reads e) false;
  }

module _ (share : List ℕ) (edges : List Edge) (boxes : List Contents) where
  -- the boxes of the share that writes edge e, and of the share that reads it
  abbrev pub writer_boxes : ℕ → Contents
  writer_boxes e = boxes_at boxes (share_of share (edge_at edges e).writer)

  abbrev pub reader_boxes : ℕ → Contents
  reader_boxes e = boxes_at boxes (share_of share (edge_at edges e).reader)

  -- what was sent and received on each edge, as their boxes say
  abbrev pub box_view : View
  box_view = end_view share edges (views_of boxes)

  -- The two boxes of each edge have met, and hold at most the capacity.
  pub record BoxesHaveMet (most : ℕ) : Type 0 where
    pub linked : (e : ℕ) → e < length edges → IsLinked (writer_boxes e) (reader_boxes e) e
    pub carried : (e : ℕ) → e < length edges → IsCarried (writer_boxes e) (reader_boxes e) e
    pub capacity : (e : ℕ) → e < length edges → (writer_boxes e).capacity ≡ most

module _ {X : Type 0} {t : Ghosts X} where
  -- the nodes of share s
  abbrev pub nodes_at : List (List (Placed X t)) → ℕ → List (Placed X t)
  nodes_at dealt s = slice_index_or dealt s []

  -- the state of each node in its share, in the order of their numbers
  abbrev pub states_in_shares : (share : List ℕ) (nodes : List (Placed X t)) (dealt : List (List (Placed X t))) → AreDealt share nodes dealt → List t.State
  states_in_shares share nodes dealt deals = map (λ (n : Placed X t). placed_state (slice_index_or (nodes_at dealt (share_of share n.number)) (deals.place n.number) n)) nodes

  -- these are the states of the nodes, in the order of their numbers
  pub record AreStates (share : List ℕ) (nodes : List (Placed X t)) (dealt : List (List (Placed X t))) (deals : AreDealt share nodes dealt) (states : List t.State) : Type 0 where
    pub count : length states ≡ length nodes
    pub each : (k : ℕ) (d : Placed X t) → k < length nodes → state_at t.behaviour states k ≡ placed_state (slice_index_or (nodes_at dealt (share_of share k)) (deals.place k) d)
