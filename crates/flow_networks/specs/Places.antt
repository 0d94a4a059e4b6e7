-- Transducers in their places: their states, their numbers, and the edges at their ports.
use Rattle.std.specs.Prelude.{◌≡◌, ℕ, ◌<◌, List, [], length, map, slice_index_or}
use Rattle.flow_base.specs.declared.transducer.Transducer.{Ghosts}
use Rattle.flow_networks.specs.declared.edge.Edge.{Edge}
use Rattle.flow_networks.specs.declared.placed.Placed.{Placed}
use Rattle.flow_networks.specs.Edges.{in_edge, out_edge, IsTakenIn, IsTakenOut}

-- the number that the table has at port p of node k
abbrev pub number_at : List (List ℕ) → ℕ → ℕ → ℕ
number_at table k p = slice_index_or (slice_index_or table k []) p 0

module _ {X : Type 0} {t : Ghosts X} where
  abbrev pub placed_state : Placed X t → t.State
  placed_state placed = t.state placed.node

  -- the state of each node
  abbrev pub states_in : List (Placed X t) → List t.State
  states_in nodes = map placed_state nodes

  -- for each node its number, the edges at its input ports, and those at its output ports
  abbrev pub numbers_in : List (Placed X t) → List ℕ
  numbers_in nodes = map (λ node. node.number) nodes

  abbrev pub inputs_in : List (Placed X t) → List (List ℕ)
  inputs_in nodes = map (λ node. node.inputs.items) nodes

  abbrev pub outputs_in : List (Placed X t) → List (List ℕ)
  outputs_in nodes = map (λ node. node.outputs.items) nodes

  -- Node k has number k, and each of its ports that has an edge names just that edge.
  pub record AreSeated (nodes : List (Placed X t)) (edges : List Edge) : Type 0 where
    pub numbers : (k : ℕ) → k < length nodes → slice_index_or (numbers_in nodes) k 0 ≡ k
    pub inputs : (k p : ℕ) → IsTakenIn edges k p → number_at (inputs_in nodes) k p ≡ in_edge edges k p
    pub outputs : (k q : ℕ) → IsTakenOut edges k q → number_at (outputs_in nodes) k q ≡ out_edge edges k q

  -- A node and the same node later: only its state may have changed.
  pub record IsSamePlace (placed later : Placed X t) : Type 0 where
    pub number : later.number ≡ placed.number
    pub inputs : later.inputs.items ≡ placed.inputs.items
    pub outputs : later.outputs.items ≡ placed.outputs.items
    pub opening : t.behaviour.opening (placed_state later) ≡ t.behaviour.opening (placed_state placed)
