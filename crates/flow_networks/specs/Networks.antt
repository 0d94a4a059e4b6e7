-- Graphs as networks of processes: their states and their edges (G. Kahn, "The semantics of a simple language
-- for parallel programming", 1974).
use Rattle.std.specs.Prelude.{◌≡◌, ◌≢◌, ℕ, ◌<◌, ◌≤◌, true, List, length, map, slice_index_or}
use Rattle.std.specs.List.{All}
use Rattle.flow_messages.specs.Ends.{View}
use Rattle.flow_messages.specs.Kinds.{TakesKind}
use Rattle.flow_messages.specs.Signals.{Signal}
use Rattle.flow_messages.specs.declared.message.Kind.{Kind}
use Rattle.flow_messages.specs.declared.message.Kind.TheVariants.{Unit as UnitKind}
use Rattle.kahn.specs.Networks.{Network}
use Rattle.kahn.specs.Configurations.{Configuration}
use Rattle.flow_base.specs.Transducers.{Behaviour}
use Rattle.flow_networks.specs.declared.edge.Edge.{Edge}
use Rattle.flow_networks.specs.Edges.{edge_at, in_edge, out_edge, IsTakenIn, IsTakenOut}

module _ {S : Type 0} (b : Behaviour S) where
  -- the state of node k; the sample where there is no such node
  abbrev pub state_at : List S → ℕ → S
  state_at states k = slice_index_or states k b.sample

  -- The same states, but for that of node k.
  pub record SameBut (k : ℕ) (old new : List S) : Type 0 where
    pub nodes : length new ≡ length old
    pub others : (j : ℕ) → j ≢ k → state_at new j ≡ state_at old j

  -- how many input ports, and how many output ports, node k has
  abbrev pub inputs_at : List S → ℕ → ℕ
  inputs_at states k = slice_index_or (map b.inputs states) k 0

  abbrev pub outputs_at : List S → ℕ → ℕ
  outputs_at states k = slice_index_or (map b.outputs states) k 0

  -- the kind of the items at input port p, and at output port q, of node k
  abbrev pub kind_to : List S → ℕ → ℕ → Kind
  kind_to states k p = slice_index_or (map (λ s. b.kind_in s p) states) k UnitKind

  abbrev pub kind_from : List S → ℕ → ℕ → Kind
  kind_from states k q = slice_index_or (map (λ s. b.kind_out s q) states) k UnitKind

  -- each node is in its opening state
  abbrev pub AreOpened : List S → Type 0
  AreOpened states = All (λ s. b.opening s ≡ s) states

  -- The edge may join these ports: it goes to a later node, both ports are there and free, and their items are of one kind.
  pub record MayJoin (states : List S) (edges : List Edge) (edge : Edge) : Type 0 where
    pub forward : edge.writer < edge.reader
    pub node : edge.reader < length states
    pub output : edge.writer_port < outputs_at states edge.writer
    pub input : edge.reader_port < inputs_at states edge.reader
    pub free_output : length edges ≤ out_edge edges edge.writer edge.writer_port
    pub free_input : length edges ≤ in_edge edges edge.reader edge.reader_port
    pub kinds : kind_from states edge.writer edge.writer_port ≡ kind_to states edge.reader edge.reader_port

  -- Each port has its edge.
  pub record IsJoined (states : List S) (edges : List Edge) : Type 0 where
    pub inputs : (k p : ℕ) → p < inputs_at states k → IsTakenIn edges k p
    pub outputs : (k q : ℕ) → q < outputs_at states k → IsTakenOut edges k q

  -- the ends are there of the edges at the ports of node k
  pub record HasEnds (states : List S) (edges : List Edge) (k : ℕ) (view : View) : Type 0 where
    pub reads : (p : ℕ) → p < inputs_at states k → view.reads (in_edge edges k p) ≡ true
    pub writes : (q : ℕ) → q < outputs_at states k → view.writes (out_edge edges k q) ≡ true

  -- the edge at each output port of node k takes items of the port's kind
  abbrev pub EdgesTake : List S → List Edge → ℕ → View → Type 0
  EdgesTake states edges k view = (q : ℕ) → q < outputs_at states k → TakesKind (view.kind (out_edge edges k q)) (b.kind_out (state_at states k) q)

  -- the network of the nodes that have these states, joined by these edges
  abbrev pub network_of : List S → List Edge → Network S
  network_of states edges =
      record {
        nodes = length states;
        edges = length edges;
        opening = state_at (map b.opening states);
        inputs = λ k. inputs_at states k;
        outputs = λ k. outputs_at states k;
        writer = λ e. (edge_at edges e).writer;
        writer_port = λ e. (edge_at edges e).writer_port;
        reader = λ e. (edge_at edges e).reader;
        reader_port = λ e. (edge_at edges e).reader_port;
        in_edge = in_edge edges;
        out_edge = out_edge edges;
      }

  -- where these nodes stand, with what was sent and received on their edges
  abbrev pub configuration_of : List S → View → Configuration S Signal
  configuration_of states view = record { state = state_at states; sent = view.sent; received = view.received }
