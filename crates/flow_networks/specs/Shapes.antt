-- What steps of a graph over the ends of its edges leave as it was.
use Rattle.std.specs.Prelude.{◌≡◌, List, length, map}
use Rattle.flow_messages.specs.Ends.{View, SameEnds}
use Rattle.flow_base.specs.Transducers.{Behaviour}
use Rattle.flow_base.specs.declared.transducer.Transducer.{Ghosts}
use Rattle.flow_networks.specs.declared.edge.Edge.{Edge}
use Rattle.flow_networks.specs.declared.graph.Graph.{Graph}
use Rattle.flow_networks.specs.declared.placed.Placed.{Placed}
use Rattle.flow_networks.specs.Places.{states_in}
use Rattle.flow_networks.specs.Graphs.{states_of, edges_of}
use Rattle.flow_networks.specs.Networks.{network_of}

-- Nodes in other states make the same network.
pub record IsSameNetwork {S : Type 0} (b : Behaviour S) (states : List S) (edges : List Edge) (states' : List S) (edges' : List Edge) : Type 0 where
  -- there are as many nodes
  pub nodes : length states' ≡ length states
  -- the edges are the same
  pub same_edges : edges' ≡ edges
  -- and so is the network
  pub network : network_of b states' edges' ≡ network_of b states edges

-- it makes the network of all nodes that opened as these did
abbrev pub IsNetworkOfAlike : {X : Type 0} {t : Ghosts X} → List (Placed X t) → List Edge → Graph X t → Type 0
IsNetworkOfAlike {X} {t} nodes edges graph =
    (states : List t.State) → map t.behaviour.opening (states_in nodes) ≡ map t.behaviour.opening states
    → IsSameNetwork t.behaviour states edges (states_of graph) (edges_of graph)

-- A graph and its ends were left in shape: what changed is where the nodes stand, and what is on the edges.
pub record KeepsShape {X Y : Type 0} {t : Ghosts X} (Same : Y → Y → Type 0) (view : Y → View) (graph : Graph X t) (before : Y) (graph' : Graph X t) (after : Y) : Type 0 where
  -- they are the same ends, before and after
  pub same : Same before after
  -- of each edge the writer's and the reader's end is there where it was
  pub ends : SameEnds (view before) (view after)
  -- the nodes, in other states, and the edges make the same network
  pub network : IsSameNetwork t.behaviour (states_of graph) (edges_of graph) (states_of graph') (edges_of graph')
