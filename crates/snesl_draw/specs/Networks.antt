-- The edges of a network, as they are drawn.
use Rattle.std.specs.Prelude.{List, None, map}
use Rattle.flow_base.specs.declared.transducer.Transducer.{Ghosts}
use Rattle.flow_networks.specs.declared.edge.Edge.{Edge}
use Rattle.flow_networks.specs.declared.graph.Graph.{Graph}
use Rattle.flow_networks.specs.Graphs.{edges_of, states_of}
use Rattle.flow_networks.specs.Networks.{state_at}
use Rattle.snesl_draw.specs.declared.drawing.DrawnEdge.{DrawnEdge}

module _ {X : Type 0} {t : Ghosts X} (graph : Graph X t) where
  -- an edge, with the kind that its writer writes to it: no traffic is known
  abbrev pub drawn_edge : Edge → DrawnEdge
  drawn_edge edge = record {
    edge = edge;
    kind = t.behaviour.kind_out (state_at t.behaviour (states_of graph) edge.writer) edge.writer_port;
    messages = None;
  }

  -- all edges
  abbrev pub drawn_edges : List DrawnEdge
  drawn_edges = map drawn_edge (edges_of graph)
