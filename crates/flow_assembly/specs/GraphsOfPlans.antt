-- The graph of a plan.
use Rattle.std.specs.Prelude.{List}
use Rattle.flow_base.specs.declared.transducer.Transducer.{Ghosts}
use Rattle.flow_networks.specs.declared.edge.Edge.{Edge}
use Rattle.flow_networks.specs.declared.graph.Graph.{Graph}
use Rattle.flow_networks.specs.Graphs.{states_of, edges_of}
use Rattle.flow_nodes.specs.plans.Plans.{Step}
use Rattle.flow_nodes.specs.plans.Layouts.{layout, edges_between, IsNetworkOfPlan}

-- this holds of the states of the graph's nodes and of its edges
abbrev pub HoldsOfGraph : {X : Type 0} {t : Ghosts X} → (List t.State → List Edge → Type 0) → Graph X t → Type 0
HoldsOfGraph holds graph = holds (states_of graph) (edges_of graph)

-- the graph is the network of the plan
abbrev pub IsGraphOfPlan : {X : Type 0} {t : Ghosts X} → List Step → Graph X t → Type 0
IsGraphOfPlan {X} {t} plan graph = IsNetworkOfPlan t.behaviour plan (states_of graph) (edges_of graph)

-- the edges of the network of the plan
abbrev pub edges_of_plan : List Step → List Edge
edges_of_plan plan = edges_between (layout plan)
