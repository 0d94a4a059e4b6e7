-- Lawful flows: bodies for the edges of a graph, over which the row of each node holds.
use Rattle.std.specs.Prelude.{◌≡◌, ℕ, ◌<◌, List, length}
use Rattle.kahn.specs.Configurations.{Configuration}
use Rattle.flow_messages.specs.Cells.{Cell}
use Rattle.flow_messages.specs.Signals.{Signal}
use Rattle.flow_base.specs.Lists.{Lists}
use Rattle.flow_base.specs.Transducers.{Behaviour, closed}
use Rattle.flow_networks.specs.declared.edge.Edge.{Edge}
use Rattle.flow_networks.specs.Edges.{in_edge, out_edge}
use Rattle.flow_networks.specs.Networks.{state_at}

-- the bodies of the edges at the input ports of node k, and at its output ports
abbrev pub bodies_in : List Edge → (ℕ → List Cell) → ℕ → Lists Cell
bodies_in edges bodies k p = bodies (in_edge edges k p)

abbrev pub bodies_out : List Edge → (ℕ → List Cell) → ℕ → Lists Cell
bodies_out edges bodies k q = bodies (out_edge edges k q)

-- what was sent to each edge, and received from it, is the closed list of its body
abbrev pub HasCarried : {State : Type 0} → List Edge → (ℕ → List Cell) → Configuration State Signal → Type 0
HasCarried edges bodies c = (e : ℕ) → e < length edges → (c.sent e ≡ closed (bodies e)) × (c.received e ≡ closed (bodies e))

module _ {S : Type 0} (b : Behaviour S) where
  -- The row of a transducer that opened in `start` holds over lists that are these bodies at the ports that it has.
  pub record HasRow (start : S) (ins outs : Lists Cell) : Type 0 where
    pub row_ins : Lists Cell
    pub row_outs : Lists Cell
    pub row : b.row start row_ins row_outs
    pub same_ins : (p : ℕ) → p < b.inputs start → row_ins p ≡ ins p
    pub same_outs : (q : ℕ) → q < b.outputs start → row_outs q ≡ outs q

  -- the row of each node, from its opening state, holds over the bodies of the edges at its ports
  abbrev pub IsLawfulFlow : List S → List Edge → (ℕ → List Cell) → Type 0
  IsLawfulFlow states edges bodies =
      (k : ℕ) → k < length states → HasRow (b.opening (state_at b states k)) (bodies_in edges bodies k) (bodies_out edges bodies k)

  -- the row of each node, from the state in which it is, holds over just the bodies of the edges at its ports
  abbrev pub RowsHold : List S → List Edge → (ℕ → List Cell) → Type 0
  RowsHold states edges bodies =
      (k : ℕ) → k < length states → b.row (state_at b states k) (bodies_in edges bodies k) (bodies_out edges bodies k)
