-- Ports of nodes in a wiring, and which of them are free.
use Rattle.std.specs.Prelude.{◌≡◌, ℕ, ◌<◌, ◌≤◌, List, [], ◌∷◌, ◌++◌, length, map, slice_index_or, Option, None}
use Rattle.flow_networks.specs.declared.edge.Edge.{Edge}
use Rattle.flow_networks.specs.declared.wiring.Ports.{Ports}
use Rattle.flow_networks.specs.Edges.{in_edge, out_edge}
use Rattle.flow_networks.specs.Tables.{ins, outs, count_at}

-- there is this port, with no edge
abbrev pub IsFreeAt : List (Option ℕ) → ℕ → Type 0
IsFreeAt ports p = (p < length ports) × (slice_index_or ports p None ≡ None)

-- for each node how many input ports it has, and how many output ports
abbrev pub input_counts : List Ports → List ℕ
input_counts ports = map length (ins ports)

abbrev pub output_counts : List Ports → List ℕ
output_counts ports = map length (outs ports)

-- later there is one node more, after all others, with so many input ports, or output ports
abbrev pub AddsInputs : List Ports → ℕ → List Ports → Type 0
AddsInputs ports count later = input_counts later ≡ input_counts ports ++ count ∷ []

abbrev pub AddsOutputs : List Ports → ℕ → List Ports → Type 0
AddsOutputs ports count later = output_counts later ≡ output_counts ports ++ count ∷ []

-- no edge goes to input port p of node k
abbrev pub HasNoEdgeTo : List Edge → ℕ → ℕ → Type 0
HasNoEdgeTo edges k p = length edges ≤ in_edge edges k p

-- no edge comes from output port q of node k
abbrev pub HasNoEdgeFrom : List Edge → ℕ → ℕ → Type 0
HasNoEdgeFrom edges k q = length edges ≤ out_edge edges k q

-- node k has input port p, and no edge goes there
abbrev pub IsFreeInput : List Ports → List Edge → ℕ → ℕ → Type 0
IsFreeInput ports edges k p = (p < count_at (ins ports) k) × HasNoEdgeTo edges k p

-- node k has output port q, and no edge comes from there
abbrev pub IsFreeOutput : List Ports → List Edge → ℕ → ℕ → Type 0
IsFreeOutput ports edges k q = (q < count_at (outs ports) k) × HasNoEdgeFrom edges k q
