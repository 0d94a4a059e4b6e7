-- What is counted in a run of a graph's network.
use Rattle.std.specs.Prelude.{◌≡◌, ℕ, ◌<◌, List, length, slice_index}
use Rattle.std.specs.Io.Iter.{u64_saturate}
use Rattle.flow_messages.specs.Ends.{View}
use Rattle.flow_base.specs.Transducers.{Behaviour}
use Rattle.flow_base.specs.declared.transducer.Transducer.{Ghosts}
use Rattle.flow_networks.specs.declared.edge.Edge.{Edge}
use Rattle.flow_networks.specs.declared.graph.Graph.{Graph}
use Rattle.flow_networks.specs.Graphs.{edges_of, states_of}
use Rattle.flow_networks.specs.MaximalRuns.{RunLeadsTo}
use Rattle.flow_networks.specs.Shapes.{IsSameNetwork}

-- the messages that went over each of so many edges are counted
pub record AreCounts (edges : ℕ) (view : View) (counts : List ℕ) : Type 0 where
  pub each : length counts ≡ edges
  pub sent : (e : ℕ) → e < edges → slice_index counts e ≡ u64_saturate (length (view.sent e))

-- they went over the edges in a run of the network of these nodes and edges, at this capacity
abbrev pub AreOfARun : {S : Type 0} (b : Behaviour S) (capacity : ℕ) (states : List S) (edges : List Edge) → List ℕ → Type 0
AreOfARun {S} b capacity states edges counts =
    (states' : List S) × (view : View) × RunLeadsTo b capacity states edges states' view × AreCounts (length edges) view counts

module _ {X : Type 0} {t : Ghosts X} where
  -- they went over the edges of this graph, in a run of its network
  abbrev pub AreOfItsRun : (capacity : ℕ) → Graph X t → List ℕ → Type 0
  AreOfItsRun capacity graph counts = AreOfARun t.behaviour capacity (states_of graph) (edges_of graph) counts

  -- the graph later, its nodes in other states, makes the same network
  abbrev pub MakesSameNetwork : (graph later : Graph X t) → Type 0
  MakesSameNetwork graph later = IsSameNetwork t.behaviour (states_of graph) (edges_of graph) (states_of later) (edges_of later)
