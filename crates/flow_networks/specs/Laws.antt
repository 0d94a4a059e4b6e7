-- What holds of every graph: the statements, each of which is the contract of a function in src/.
use Rattle.std.specs.Prelude.{◌≡◌, ℕ, ◌<◌, ◌≤◌, false, List, length}
use Rattle.kahn.specs.declared.want.Want.TheVariants.{Write}
use Rattle.kahn.specs.Processes.{Settles}
use Rattle.kahn.specs.Networks.{IsWired, AllLawful}
use Rattle.kahn.specs.Configurations.{IsSound, start}
use Rattle.flow_messages.specs.Signals.{stop, ended}
use Rattle.flow_messages.specs.Ends.{View}
use Rattle.flow_messages.specs.Tables.{IsFresh}
use Rattle.flow_base.specs.Transducers.{Behaviour}
use Rattle.flow_networks.specs.declared.edge.Edge.{Edge}
use Rattle.flow_networks.specs.Limits.{most_nodes, most_edges}
use Rattle.flow_networks.specs.Edges.{edge_at, out_edge}
use Rattle.flow_networks.specs.Networks.{state_at, kind_from, kind_to, AreOpened, network_of, configuration_of}

module _ {S : Type 0} (b : Behaviour S) (states : List S) (edges : List Edge) where
  -- A graph is a network of lawful processes that settle, each port with its edge.
  pub record IsNetwork : Type 0 where
    pub wired : IsWired (network_of b states edges)
    pub lawful : AllLawful b.process (network_of b states edges)
    pub settles : Settles b.process
    pub end : b.process.end ≡ stop

  -- The items at both ends of an edge are of one kind, and there are not too many nodes and edges.
  pub record IsWithinLimits : Type 0 where
    pub kinds : (e : ℕ) → e < length edges → kind_from b states (edge_at edges e).writer (edge_at edges e).writer_port ≡ kind_to b states (edge_at edges e).reader (edge_at edges e).reader_port
    pub few_nodes : length states ≤ most_nodes
    pub few_edges : length edges ≤ most_edges

  -- Where the nodes are in their opening states and nothing was sent, they are before any step.
  abbrev pub Opens : View → Type 0
  Opens view = AreOpened b states → IsFresh (length edges) view → configuration_of b states view ≡ start (network_of b states edges)

  -- In a sound configuration no node wants to write to an edge to which End was sent.
  abbrev pub WritesOpen : View → Type 0
  WritesOpen view =
      IsSound b.process (network_of b states edges) (configuration_of b states view)
      → (k q : ℕ) → k < length states → b.process.want (state_at b states k) ≡ Write q → ended (view.sent (out_edge edges k q)) ≡ false
