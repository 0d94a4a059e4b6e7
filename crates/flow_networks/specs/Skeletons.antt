-- Which nodes fit together in a skeleton.
use Rattle.std.specs.Prelude.{◌≡◌, ℕ, ◌<◌, List, length, slice_index_or}
use Rattle.flow_base.specs.declared.transducer.Transducer.{Ghosts}
use Rattle.flow_networks.specs.declared.edge.Edge.{Edge}
use Rattle.flow_networks.specs.declared.placed.Placed.{Placed}
use Rattle.flow_networks.specs.declared.graph.Graph.{Graph}
use Rattle.flow_networks.specs.declared.graph.Skeleton.{Skeleton}
use Rattle.flow_networks.specs.Places.{states_in, AreSeated, IsSamePlace}
use Rattle.flow_networks.specs.Kept.{IsBuilt}

-- the nodes of a graph, in order
abbrev pub nodes_of : {X : Type 0} {t : Ghosts X} → Graph X t → List (Placed X t)
nodes_of graph = graph.nodes.items

-- the edges of a skeleton
abbrev pub edges_in : Skeleton → List Edge
edges_in skeleton = skeleton.edges.items

module _ {X : Type 0} {t : Ghosts X} where
  -- The nodes and edges make a network, and each node is in its place.
  pub record FitTogether (nodes : List (Placed X t)) (edges : List Edge) : Type 0 where
    pub built : IsBuilt t.behaviour (states_in nodes) edges
    pub seated : AreSeated nodes edges

  -- The same nodes later, in order.
  pub record AreSamePlaces (nodes later : List (Placed X t)) : Type 0 where
    pub count : length later ≡ length nodes
    pub each : (k : ℕ) (d : Placed X t) → k < length nodes → IsSamePlace (slice_index_or nodes k d) (slice_index_or later k d)
