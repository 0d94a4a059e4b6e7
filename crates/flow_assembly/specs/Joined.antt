-- A network while it is built: what is joined so far, and where the next reader of each stream gets it.
use Rattle.std.specs.Prelude.{◌≡◌, ℕ, zero, suc, ◌+◌, ◌<◌, ◌≤◌, ◌^◌, ◌==◌, ◌⊎◌, List, [], ◌∷◌, ◌++◌, length, drop, Some, if◌then◌else◌, slice_index_or}
use Rattle.std.specs.List.{slice_get}
use Rattle.flow_networks.specs.declared.edge.Edge.{Edge}
use Rattle.flow_networks.specs.Edges.{edge_at, out_edge, IsTakenIn, IsTakenOut}
use Rattle.flow_networks.specs.Networks.{state_at}
use Rattle.flow_nodes.specs.StreamNodes.{NodeKind, member, node_behaviour}
use Rattle.flow_nodes.specs.plans.Layouts.{Placed, StreamPort, ports_from, inputs_from, outputs_from, edges_from, edges_between, stream_from, stream_to}
use Rattle.flow_assembly.specs.declared.network.Port.{Port}
use Rattle.flow_assembly.specs.Openings.{IsOpening}

-- where the next reader of a stream gets it
abbrev pub supplier : List Port → ℕ → Port
supplier supply s = slice_index_or supply s (record { node = 0; port = 0 })

-- an edge from this output port to this input port
abbrev pub edge_from : Port → (reader port : ℕ) → Edge
edge_from from reader port = record { writer = from.node; writer_port = from.port; reader = reader; reader_port = port }

-- the next output port of the same node
abbrev pub port_after : Port → Port
port_after from = record from { port = from.port + 1 }

-- port q of node k comes before port p of node r
abbrev pub ComesBefore : (k q r p : ℕ) → Type 0
ComesBefore k q r p = (k < r) ⊎ ((k ≡ r) × (q < p))

-- those of these ports at which there is this stream
abbrev pub at_stream : ℕ → List StreamPort → List StreamPort
at_stream s [] = []
at_stream s (port ∷ ports) = if port.stream == s then port ∷ at_stream s ports else at_stream s ports

-- so many output ports for this stream, from this one on
abbrev pub run_of : ℕ → Port → ℕ → List StreamPort
run_of s from zero = []
run_of s from (suc n) = record { node = from.node; port = from.port; stream = s } ∷ run_of s (port_after from) n

-- the input ports of these nodes, from port p of the first of them on, which is node r
abbrev pub inputs_after : (r p : ℕ) → List Placed → List StreamPort
inputs_after r p [] = []
inputs_after r p (placed ∷ nodes) = ports_from r p (drop p placed.reads) ++ inputs_from (suc r) nodes

-- The input ports before port p of node r have the edges that they are to have. Of the output ports that are left, those of a
-- stream are the ones from its supplier on, for as many uses as it has left, and those of nodes from r on.
pub record IsInOrder (nodes : List Placed) (left : ℕ → ℕ) (supply : List Port) (r p : ℕ) (edges : List Edge) : Type 0 where
  pub ports_left : List StreamPort
  pub edges_are : edges ++ edges_from (inputs_after r p (drop r nodes)) ports_left ≡ edges_between nodes
  pub supplied : (s : ℕ) → s < length supply
      → at_stream s ports_left ≡ run_of s (supplier supply s) (left s) ++ at_stream s (outputs_from r (drop r nodes))
  pub to_come : (s : ℕ) → length supply ≤ s → at_stream s ports_left ≡ at_stream s (outputs_from r (drop r nodes))

-- Of these transducers the first stand in the network, each in the state in which it opens. The input ports before port p of
-- node r have their edges, and each edge joins two ports of one stream. Each stream has so many uses left, and for each of
-- them an output port before node r, from its supplier on; all other output ports before node r have their edges. The edges are
-- in the order in which they are to be.
pub record IsJoinedTo (nodes : List Placed) (left : ℕ → ℕ) (supply : List Port) (r p : ℕ) (states : List ((t : NodeKind) × (member t).State)) (edges : List Edge) : Type 0 where
  pub opens : (k : ℕ) (placed : Placed) → k < length states → slice_get nodes k ≡ Some placed → IsOpening placed.at placed.operation (state_at node_behaviour states k)
  pub joins : (e : ℕ) → e < length edges → stream_from nodes (edge_at edges e).writer (edge_at edges e).writer_port ≡ stream_to nodes (edge_at edges e).reader (edge_at edges e).reader_port
  pub readers : (e : ℕ) → e < length edges → ComesBefore (edge_at edges e).reader (edge_at edges e).reader_port r p
  pub writers : (e : ℕ) → e < length edges → (edge_at edges e).writer < r
  pub read : (k q s : ℕ) → ComesBefore k q r p → stream_to nodes k q ≡ Some s → IsTakenIn edges k q
  pub written : (k q s : ℕ) → k < r → stream_from nodes k q ≡ Some s
      → IsTakenOut edges k q ⊎ ((k ≡ (supplier supply s).node) × ((supplier supply s).port ≤ q) × (q < (supplier supply s).port + left s))
  pub known : (k q s : ℕ) → k < r → stream_from nodes k q ≡ Some s → s < length supply
  pub node : (s : ℕ) → s < length supply → 0 < left s → (supplier supply s).node < r
  pub stream : (s i : ℕ) → s < length supply → i < left s → stream_from nodes (supplier supply s).node ((supplier supply s).port + i) ≡ Some s
  pub free : (s i : ℕ) → s < length supply → i < left s → length edges ≤ out_edge edges (supplier supply s).node ((supplier supply s).port + i)
  pub fits : (s : ℕ) → s < length supply → (supplier supply s).port + left s < 2 ^ 64
  pub order : IsInOrder nodes left supply r p edges
