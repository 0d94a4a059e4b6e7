-- What holds where shares go on side by side, each by itself, a round at a time: the statements, each of which is the
-- contract of a function in src/theorems.rt.
use Rattle.std.specs.Prelude.{◌≡◌, ℕ, ◌<◌, List, [], length, Some}
use Rattle.std.specs.List.{All}
use Rattle.kahn.specs.Networks.{Network}
use Rattle.kahn.specs.Configurations.{Configuration, start, IsSound, moved}
use Rattle.kahn.specs.Runs.{Reaches, AtRest}
use Rattle.flow_messages.specs.Signals.{Signal}
use Rattle.flow_messages.specs.Ends.{SameTraffic}
use Rattle.flow_base.specs.declared.transducer.Transducer.{Ghosts}
use Rattle.flow_networks.specs.declared.edge.Edge.{Edge}
use Rattle.flow_networks.specs.declared.placed.Placed.{Placed}
use Rattle.flow_networks.specs.Networks.{AreOpened, network_of, configuration_of}
use Rattle.flow_networks.specs.Places.{states_in}
use Rattle.flow_networks.specs.Skeletons.{FitTogether, AreSamePlaces}
use Rattle.flow_boxes.specs.Contents.{Contents}
use Rattle.flow_boxes.specs.Rounds.{KeepsRound}
use Rattle.flow_shares.specs.Shares.{IsOwn, HaveMoved, AreStuck}
use Rattle.flow_shares.specs.Deals.{AreDealt}
use Rattle.flow_shares.specs.meetings.Joints.{nodes_at, boxes_at, writer_boxes, reader_boxes, box_view, BoxesHaveMet, AreStates}

-- nothing was sent or received in the first so many shares
abbrev pub NothingMoved : ℕ → List Contents → List Contents → Type 0
NothingMoved shares boxes after = (s : ℕ) → s < shares → SameTraffic (boxes_at boxes s).ends (boxes_at after s).ends

module _ {X : Type 0} {t : Ghosts X} where
  -- Each share went on by itself: its nodes by reads and writes of their own, and its boxes as they do within a round.
  pub record HaveGoneOn (dealt later : List (List (Placed X t))) (boxes after : List Contents) : Type 0 where
    pub count : length later ≡ length dealt
    pub places : (s : ℕ) → s < length dealt → AreSamePlaces (nodes_at dealt s) (nodes_at later s)
    pub moved : (s : ℕ) → s < length dealt → HaveMoved (nodes_at dealt s) (nodes_at later s) (boxes_at boxes s).ends (boxes_at after s).ends
    pub kept : (s : ℕ) → s < length dealt → KeepsRound (boxes_at boxes s) (boxes_at after s)

  -- no node of a share can step by what its own boxes are certain of
  abbrev pub AllStuck : List (List (Placed X t)) → List Contents → Type 0
  AllStuck dealt boxes = (s : ℕ) → s < length dealt → AreStuck (boxes_at boxes s).ends (nodes_at dealt s)

  -- each node's history is that of its own ends
  abbrev pub AllOwn : List (List (Placed X t)) → List Contents → Type 0
  AllOwn dealt boxes = (s : ℕ) → s < length dealt → All (IsOwn (boxes_at boxes s).ends) (nodes_at dealt s)

  -- the network of the nodes
  abbrev pub net_of : List (Placed X t) → List Edge → Network t.State
  net_of nodes edges = network_of t.behaviour (states_in nodes) edges

-- where the nodes stand, with what the boxes of all shares say
abbrev pub box_configuration : {X : Type 0} (t : Ghosts X) → List ℕ → List Edge → List t.State → List Contents → Configuration t.State Signal
box_configuration t share edges states boxes = configuration_of t.behaviour states (box_view share edges boxes)

module _ {X : Type 0} (t : Ghosts X) where
  -- where the nodes are in their opening states, and nothing was sent or received on any edge, they are before any step
  abbrev pub FreshSharesStart : Type 0
  FreshSharesStart =
      (share : List ℕ) (edges : List Edge) (nodes : List (Placed X t)) (boxes : List Contents) → AreOpened t.behaviour (states_in nodes)
      → ((e : ℕ) → e < length edges → ((writer_boxes share edges boxes e).ends.sent e ≡ []) × ((reader_boxes share edges boxes e).ends.received e ≡ []))
      → box_configuration t share edges (states_in nodes) boxes ≡ start (net_of nodes edges)

  -- where all edges have met, and each node's history is that of its own ends, the configuration is sound
  abbrev pub MeetingIsSound : Type 0
  MeetingIsSound =
      (capacity : ℕ) (share : List ℕ) (edges : List Edge) (nodes : List (Placed X t)) → FitTogether nodes edges
      → (dealt : List (List (Placed X t))) (deals : AreDealt share nodes dealt) (states : List t.State) → AreStates share nodes dealt deals states
      → (boxes : List Contents) → BoxesHaveMet share edges boxes capacity → AllOwn dealt boxes
      → ∥ IsSound t.behaviour.process (net_of nodes edges) (box_configuration t share edges states boxes) ∥₁

  -- where all edges had met, and each share went on by itself, all together is a run of the network, and there are more
  -- messages if one share sent or received any
  abbrev pub RoundIsARun : Type 0
  RoundIsARun =
      (capacity : ℕ) (share : List ℕ) (edges : List Edge) (nodes : List (Placed X t)) → FitTogether nodes edges
      → (dealt later : List (List (Placed X t))) (deals : AreDealt share nodes dealt) (still : AreDealt share nodes later) (states states' : List t.State)
      → AreStates share nodes dealt deals states → AreStates share nodes later still states'
      → (boxes after : List Contents) →
      let net = net_of nodes edges in
      let c = box_configuration t share edges states boxes in
      let d = box_configuration t share edges states' after in
      BoxesHaveMet share edges boxes capacity → IsSound t.behaviour.process net c → HaveGoneOn dealt later boxes after
      → Reaches t.behaviour.process net (Some capacity) c d × ((NothingMoved (length dealt) boxes after → ⊥) → moved net c < moved net d)

  -- where all edges have met, and no node of any share can step by what its own boxes are certain of, no node can step
  abbrev pub CalmRoundsRest : Type 0
  CalmRoundsRest =
      (capacity : ℕ) (share : List ℕ) (edges : List Edge) (nodes : List (Placed X t)) → FitTogether nodes edges
      → (dealt : List (List (Placed X t))) (deals : AreDealt share nodes dealt) (states : List t.State) → AreStates share nodes dealt deals states
      → (boxes : List Contents) → BoxesHaveMet share edges boxes capacity → AllStuck dealt boxes
      → AtRest t.behaviour.process (net_of nodes edges) (Some capacity) (box_configuration t share edges states boxes)

  -- where all edges had met, nothing was sent or received in a round, and after it no node of any share could step by
  -- what its own boxes were certain of, no node can step
  abbrev pub CalmRoundLeadsToRest : Type 0
  CalmRoundLeadsToRest =
      (capacity : ℕ) (share : List ℕ) (edges : List Edge) (nodes : List (Placed X t)) → FitTogether nodes edges
      → (dealt later : List (List (Placed X t))) → AreDealt share nodes dealt → (still : AreDealt share nodes later) (states' : List t.State) → AreStates share nodes later still states'
      → (boxes after : List Contents) → BoxesHaveMet share edges boxes capacity → HaveGoneOn dealt later boxes after
      → NothingMoved (length dealt) boxes after → AllStuck later after
      → AtRest t.behaviour.process (net_of nodes edges) (Some capacity) (box_configuration t share edges states' after)

  -- where nothing was sent or received, the nodes and their boxes stand where they stood
  abbrev pub CarryingKeepsTheConfiguration : Type 0
  CarryingKeepsTheConfiguration =
      (share : List ℕ) (edges : List Edge) (states : List t.State) (boxes carried : List Contents) → length carried ≡ length boxes
      → NothingMoved (length boxes) boxes carried
      → box_configuration t share edges states carried ≡ box_configuration t share edges states boxes
