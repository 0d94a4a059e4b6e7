-- Tables of the edges at the ports of nodes, as the code keeps them.
use Rattle.std.specs.Prelude.{◌≡◌, ℕ, ◌<◌, List, [], length, map, slice_index_or, Option, Some, None, IsSome}
use Rattle.std.specs.List.{All}
use Rattle.flow_networks.specs.declared.edge.Edge.{Edge}
use Rattle.flow_networks.specs.declared.wiring.Ports.{Ports}
use Rattle.flow_networks.specs.Edges.{edge_at, IsTakenIn, IsTakenOut}

-- for each node the edges at its input ports, and those at its output ports
abbrev pub ins : List Ports → List (List (Option ℕ))
ins ports = map (λ node. node.inputs.items) ports

abbrev pub outs : List Ports → List (List (Option ℕ))
outs ports = map (λ node. node.outputs.items) ports

-- what the table has for node k, at each of its ports
abbrev pub row_at : List (List (Option ℕ)) → ℕ → List (Option ℕ)
row_at table k = slice_index_or table k []

-- what the table has at port p of node k
abbrev pub entry_at : List (List (Option ℕ)) → ℕ → ℕ → Option ℕ
entry_at table k p = slice_index_or (row_at table k) p None

-- how many ports node k has in the table
abbrev pub count_at : List (List (Option ℕ)) → ℕ → ℕ
count_at table k = slice_index_or (map length table) k 0

-- Each edge stands in the table at its node and port, and each edge in the table is one with just that node and port.
pub record IsTableOf (node port : Edge → ℕ) (table : List (List (Option ℕ))) (edges : List Edge) : Type 0 where
  pub stands : (e : ℕ) → e < length edges → entry_at table (node (edge_at edges e)) (port (edge_at edges e)) ≡ Some e
  pub there : (k p e : ℕ) → entry_at table k p ≡ Some e → e < length edges
  pub of_node : (k p e : ℕ) → entry_at table k p ≡ Some e → node (edge_at edges e) ≡ k
  pub of_port : (k p e : ℕ) → entry_at table k p ≡ Some e → port (edge_at edges e) ≡ p

-- Each edge goes from a node to a later one, and the tables of the ports are those of the edges.
pub record IsWiring (ports : List Ports) (edges : List Edge) : Type 0 where
  pub forward : (e : ℕ) → e < length edges → (edge_at edges e).writer < (edge_at edges e).reader
  pub ins : IsTableOf (λ edge. edge.reader) (λ edge. edge.reader_port) (ins ports) edges
  pub outs : IsTableOf (λ edge. edge.writer) (λ edge. edge.writer_port) (outs ports) edges

-- each port of the node has its edge
pub record HasAllEdges (node : Ports) : Type 0 where
  pub inputs : All IsSome node.inputs.items
  pub outputs : All IsSome node.outputs.items

-- each port in the tables has its edge
pub record IsFull (ports : List Ports) (edges : List Edge) : Type 0 where
  pub inputs : (k p : ℕ) → p < count_at (ins ports) k → IsTakenIn edges k p
  pub outputs : (k q : ℕ) → q < count_at (outs ports) k → IsTakenOut edges k q
