-- Nodes of a graph where they stand: what they want, and what a step of one makes of the graph.
use Rattle.std.specs.Prelude.{◌≡◌, ℕ, true, List, map, slice_set}
use Rattle.kahn.specs.declared.want.Want.{Want}
use Rattle.flow_messages.specs.Signals.{Signal}
use Rattle.flow_messages.specs.Kinds.{fits}
use Rattle.flow_messages.specs.Ends.{View}
use Rattle.flow_base.specs.Transducers.{Behaviour}
use Rattle.flow_base.specs.declared.transducer.Transducer.{Ghosts}
use Rattle.flow_networks.specs.declared.graph.Graph.{Graph}
use Rattle.flow_networks.specs.Networks.{state_at, AreOpened, HasEnds, EdgesTake}
use Rattle.flow_networks.specs.Graphs.{states_of, edges_of}

module _ {S : Type 0} (b : Behaviour S) where
  -- the nodes opened in the same states as before
  abbrev pub OpenedAlike : List S → List S → Type 0
  OpenedAlike old new = map b.opening new ≡ map b.opening old

  -- where each node was in its opening state, each is
  abbrev pub StayOpened : List S → List S → Type 0
  StayOpened old new = AreOpened b old → AreOpened b new

  -- what is written next from this state is of the kind of the items at output port q
  abbrev pub FitsPort : S → ℕ → Type 0
  FitsPort s q = fits (b.kind_out s q) (b.process.written s) ≡ true

module _ {X : Type 0} {t : Ghosts X} (graph : Graph X t) (node : ℕ) where
  -- the state of this node of the graph
  abbrev pub stand_at : t.State
  stand_at = state_at t.behaviour (states_of graph) node

  -- what it wants
  abbrev pub wanted_at : Want
  wanted_at = t.behaviour.process.want stand_at

  -- the message that it writes next
  abbrev pub message_from : Signal
  message_from = t.behaviour.process.written stand_at

  -- the ends are there of the edges at its ports
  abbrev pub NodeHasEnds : View → Type 0
  NodeHasEnds view = HasEnds t.behaviour (states_of graph) (edges_of graph) node view

  -- the edge at each of its output ports takes items of the port's kind
  abbrev pub NodeEdgesTake : View → Type 0
  NodeEdgesTake view = EdgesTake t.behaviour (states_of graph) (edges_of graph) node view

  -- both hold: it may step over these ends
  abbrev pub NodeMayStep : View → Type 0
  NodeMayStep view = NodeHasEnds view × NodeEdgesTake view

  -- the graph later is the same, but that the node has read this message
  abbrev pub HasReadAt : Signal → Graph X t → Type 0
  HasReadAt m later = states_of later ≡ slice_set (states_of graph) node (t.behaviour.process.read stand_at m)

  -- the graph later is the same, but that the node has written its message
  abbrev pub HasWrittenAt : Graph X t → Type 0
  HasWrittenAt later = states_of later ≡ slice_set (states_of graph) node (t.behaviour.process.wrote stand_at)
