-- The kinds of the edges of a graph, and ends whose edges take what its nodes may put.
use Rattle.std.specs.Prelude.{ℕ, ◌<◌, List, length, map, slice_index_or}
use Rattle.flow_messages.specs.declared.message.Kind.{Kind}
use Rattle.flow_messages.specs.declared.message.Kind.TheVariants.{Unit as UnitKind}
use Rattle.flow_messages.specs.Ends.{View}
use Rattle.flow_base.specs.Transducers.{Behaviour}
use Rattle.flow_base.specs.declared.transducer.Transducer.{Ghosts}
use Rattle.flow_networks.specs.declared.edge.Edge.{Edge}
use Rattle.flow_networks.specs.declared.graph.Graph.{Graph}
use Rattle.flow_networks.specs.Graphs.{states_of, edges_of}
use Rattle.flow_networks.specs.Networks.{state_at}
use Rattle.flow_networks.specs.Standing.{NodeEdgesTake}

-- of each edge, the kind of the items at its writer's port
abbrev pub edge_kinds : {S : Type 0} → Behaviour S → List S → List Edge → List Kind
edge_kinds b states edges = map (λ edge. b.kind_out (state_at b states edge.writer) edge.writer_port) edges

-- the kind of edge e
abbrev pub kind_at : List Kind → ℕ → Kind
kind_at kinds e = slice_index_or kinds e UnitKind

module _ {X : Type 0} {t : Ghosts X} (graph : Graph X t) where
  -- the kinds of the edges of a graph
  abbrev pub graph_kinds : List Kind
  graph_kinds = edge_kinds t.behaviour (states_of graph) (edges_of graph)

  -- each edge takes what the node that writes it may put
  abbrev pub EdgesTakeAll : View → Type 0
  EdgesTakeAll view = (k : ℕ) → k < length (states_of graph) → NodeEdgesTake graph k view
