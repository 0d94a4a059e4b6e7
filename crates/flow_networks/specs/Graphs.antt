-- What contracts see of a graph, and of one that is being built: the states of its nodes, and its edges, in order.
use Rattle.std.specs.Prelude.{◌≡◌, List, [], ◌∷◌, ◌++◌}
use Rattle.flow_base.specs.declared.transducer.Transducer.{Ghosts}
use Rattle.flow_networks.specs.declared.edge.Edge.{Edge}
use Rattle.flow_networks.specs.declared.graph.Graph.{Graph}
use Rattle.flow_networks.specs.declared.graph.GraphBuilder.{GraphBuilder}
use Rattle.flow_networks.specs.Networks.{MayJoin}
use Rattle.flow_networks.specs.Places.{states_in}

-- the state of each node of a graph
abbrev pub states_of : {X : Type 0} {t : Ghosts X} → Graph X t → List t.State
states_of graph = states_in graph.nodes.items

-- the edges of a graph
abbrev pub edges_of : {X : Type 0} {t : Ghosts X} → Graph X t → List Edge
edges_of graph = graph.edges.items

-- the state of each node so far
abbrev pub states_so_far : {X : Type 0} {t : Ghosts X} → GraphBuilder X t → List t.State
states_so_far builder = states_in builder.nodes.items

-- the edges so far
abbrev pub edges_so_far : {X : Type 0} {t : Ghosts X} → GraphBuilder X t → List Edge
edges_so_far builder = builder.wiring.edges.items

-- later it has one node more, after all others, in this state
abbrev pub AddsNode : {X : Type 0} {t : Ghosts X} → GraphBuilder X t → t.State → GraphBuilder X t → Type 0
AddsNode builder s later = states_so_far later ≡ states_so_far builder ++ s ∷ []

-- the edge may be added
abbrev pub AcceptsEdge : {X : Type 0} {t : Ghosts X} → GraphBuilder X t → Edge → Type 0
AcceptsEdge {X} {t} builder edge = MayJoin t.behaviour (states_so_far builder) (edges_so_far builder) edge
