-- Edges by their numbers, and by the ports that they join.
use Rattle.std.specs.Prelude.{◌==◌, ◌&&◌, ℕ, ◌<◌, List, length, slice_index_or}
use Rattle.std.specs.List.{position_or_len}
use Rattle.flow_networks.specs.declared.edge.Edge.{Edge}

-- the edge of this number
abbrev pub edge_at : List Edge → ℕ → Edge
edge_at edges e = slice_index_or edges e (record { writer = 0; writer_port = 0; reader = 0; reader_port = 0 })

-- the number of the edge that goes to input port p of node k; where there is none, that of the next edge to come
abbrev pub in_edge : List Edge → ℕ → ℕ → ℕ
in_edge edges k p = position_or_len (λ edge. (edge.reader == k) && (edge.reader_port == p)) edges

-- the number of the edge that comes from output port q of node k; where there is none, that of the next edge to come
abbrev pub out_edge : List Edge → ℕ → ℕ → ℕ
out_edge edges k q = position_or_len (λ edge. (edge.writer == k) && (edge.writer_port == q)) edges

-- an edge goes to input port p of node k
abbrev pub IsTakenIn : List Edge → ℕ → ℕ → Type 0
IsTakenIn edges k p = in_edge edges k p < length edges

-- an edge comes from output port q of node k
abbrev pub IsTakenOut : List Edge → ℕ → ℕ → Type 0
IsTakenOut edges k q = out_edge edges k q < length edges
