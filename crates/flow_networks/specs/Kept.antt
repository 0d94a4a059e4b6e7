-- What every graph keeps, also while it is built.
use Rattle.std.specs.Prelude.{◌≡◌, ℕ, ◌<◌, ◌≤◌, List, length, map}
use Rattle.kahn.specs.Networks.{IsWired}
use Rattle.flow_base.specs.Transducers.{Behaviour}
use Rattle.flow_networks.specs.declared.edge.Edge.{Edge}
use Rattle.flow_networks.specs.declared.wiring.Ports.{Ports}
use Rattle.flow_networks.specs.Limits.{most_nodes, most_edges}
use Rattle.flow_networks.specs.Edges.{edge_at}
use Rattle.flow_networks.specs.Tables.{ins, outs}
use Rattle.flow_networks.specs.Networks.{kind_from, kind_to, IsJoined, network_of}
use Rattle.flow_networks.specs.Laws.{IsWithinLimits}

module _ {S : Type 0} (b : Behaviour S) where
  -- The nodes have as many ports as the tables, the items at both ends of an edge are of one kind, and there are not
  -- too many nodes and edges.
  pub record IsKept (states : List S) (ports : List Ports) (edges : List Edge) : Type 0 where
    pub inputs : map length (ins ports) ≡ map b.inputs states
    pub outputs : map length (outs ports) ≡ map b.outputs states
    pub kinds : (e : ℕ) → e < length edges → kind_from b states (edge_at edges e).writer (edge_at edges e).writer_port ≡ kind_to b states (edge_at edges e).reader (edge_at edges e).reader_port
    pub few_nodes : length states ≤ most_nodes
    pub few_edges : length edges ≤ most_edges

  -- The nodes and edges make a network, each port with its edge, and keep to the limits.
  pub record IsBuilt (states : List S) (edges : List Edge) : Type 0 where
    pub wired : IsWired (network_of b states edges)
    pub joined : IsJoined b states edges
    pub limits : IsWithinLimits b states edges
