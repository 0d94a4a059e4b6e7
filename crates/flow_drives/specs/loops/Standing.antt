-- Shares of a graph between two rounds.
use Rattle.std.specs.Prelude.{◌≡◌, ℕ, ◌<◌, List, length, map, Some}
use Rattle.kahn.specs.Configurations.{Configuration, start}
use Rattle.kahn.specs.Runs.{Reaches, AtRest}
use Rattle.flow_messages.specs.Signals.{Signal}
use Rattle.flow_messages.specs.declared.ends.Ends.{Ghosts as EndsGhosts}
use Rattle.flow_base.specs.declared.transducer.Transducer.{Ghosts}
use Rattle.flow_networks.specs.declared.edge.Edge.{Edge}
use Rattle.flow_networks.specs.Edges.{edge_at}
use Rattle.flow_boxes.specs.Contents.{Contents, contents}
use Rattle.flow_boxes.specs.Rounds.{IsLinked}
use Rattle.flow_boxes.specs.declared.boxes.Boxes.{Boxes}
use Rattle.flow_shares.specs.Deals.{share_of, AreDealt}
use Rattle.flow_shares.specs.declared.share.Share.{Share}
use Rattle.flow_shares.specs.meetings.Joints.{views_of, writer_boxes, reader_boxes, BoxesHaveMet, AreStates}
use Rattle.flow_shares.specs.meetings.RoundTheorems.{NothingMoved, net_of, box_configuration}
use Rattle.flow_shares.specs.meetings.Deals.{nodes_in}
use Rattle.flow_shares.specs.meetings.SharedNetworks.{SharedNetwork, moves_by, numbers_of, AreFed}

-- The two boxes of each edge are among these, and hold at most so many messages.
pub record AreLinked (share : List ℕ) (edges : List Edge) (boxes : List Contents) (most : ℕ) : Type 0 where
  pub writers : (e : ℕ) → e < length edges → share_of share (edge_at edges e).writer < length boxes
  pub readers : (e : ℕ) → e < length edges → share_of share (edge_at edges e).reader < length boxes
  pub linked : (e : ℕ) → e < length edges → IsLinked (writer_boxes share edges boxes e) (reader_boxes share edges boxes e) e
  pub capacity : (e : ℕ) → e < length edges → (writer_boxes share edges boxes e).capacity ≡ most

-- what is seen of each of these boxes
abbrev pub boxes_seen : List Boxes → List Contents
boxes_seen boxes = map contents boxes

module _ {X : Type 0} {t : Ghosts X} {u : EndsGhosts Boxes} where
  -- what is seen of the boxes of each share
  abbrev pub boxes_of : List (Share X Boxes t u) → List Contents
  boxes_of shares = map (λ share. contents share.ends) shares

-- how many messages were sent and received on all edges
abbrev pub moved_in : {X : Type 0} {t : Ghosts X} → SharedNetwork t → List Contents → ℕ
moved_in network boxes = moves_by network (views_of boxes)

module _ {X : Type 0} {t : Ghosts X} {u : EndsGhosts Boxes} (network : SharedNetwork t) where
  -- where the nodes of these shares stand, with what their boxes say
  abbrev pub shares_configuration : List t.State → List (Share X Boxes t u) → Configuration t.State Signal
  shares_configuration states shares = box_configuration t network.share network.edges states (boxes_of shares)

  -- All edges have met since: nothing was sent or received, and the shares have the same nodes.
  pub record HaveMetSince (shares after : List (Share X Boxes t u)) : Type 0 where
    pub numbers : numbers_of after ≡ numbers_of shares
    pub nodes : nodes_in after ≡ nodes_in shares
    pub fed : AreFed after
    pub traffic : NothingMoved (length (boxes_of shares)) (boxes_of shares) (boxes_of after)
    pub met : BoxesHaveMet network.share network.edges (boxes_of after) network.capacity

  -- The shares of the graph, with all its nodes and over boxes that have met, stand where a run of its network led.
  pub record StandBetweenRounds (shares : List (Share X Boxes t u)) : Type 0 where
    pub deals : AreDealt network.share network.nodes (nodes_in shares)
    pub fed : AreFed shares
    pub met : BoxesHaveMet network.share network.edges (boxes_of shares) network.capacity
    pub states : List t.State
    pub are_states : AreStates network.share network.nodes (nodes_in shares) deals states
    pub reaches : Reaches t.behaviour.process (net_of network.nodes network.edges) (Some network.capacity) (start (net_of network.nodes network.edges)) (shares_configuration states shares)

  -- And no node can step.
  pub record RestBetweenRounds (shares : List (Share X Boxes t u)) : Type 0 where
    pub stand : StandBetweenRounds shares
    pub rest : AtRest t.behaviour.process (net_of network.nodes network.edges) (Some network.capacity) (shares_configuration stand.states shares)
