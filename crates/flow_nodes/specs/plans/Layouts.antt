-- From a plan to a network: where the transducers of its steps stand, and what joins a stream to all that read it. A stream
-- with no use goes into a Sink, one with one use straight to its reader, and one with several into a Fork with so many
-- outputs; these stand right after the transducer that writes the stream.
use Rattle.std.specs.Prelude.{◌≡◌, ℕ, zero, suc, ◌+◌, ◌<◌, ◌==◌, List, [], ◌∷◌, ◌++◌, length, replicate, Option, Some, if◌then◌else◌}
use Rattle.std.specs.List.{slice_get}
use Rattle.flow_messages.specs.Cells.{Cell}
use Rattle.flow_messages.specs.declared.message.Kind.{Kind}
use Rattle.flow_base.specs.Columns.{Columns}
use Rattle.flow_base.specs.Transducers.{Behaviour}
use Rattle.flow_nodes.specs.functions.Lists.{bind}
use Rattle.flow_nodes.specs.functions.RowsAreFunctions.{IsFunction}
use Rattle.flow_networks.specs.declared.edge.Edge.{Edge}
use Rattle.flow_networks.specs.Edges.{edge_at}
use Rattle.flow_networks.specs.Networks.{state_at}
use Rattle.flow_nodes.specs.plans.Plans.{Operation, Step, fork, sink, made_by}
use Rattle.flow_nodes.specs.plans.Ports.{kinds_read, kinds_written}

-- A transducer in a network: what it does, the offset of the form that it comes from, and the numbers of the streams that it
-- reads and writes, port by port.
pub record Placed : Type 0 where
  pub at : ℕ
  pub operation : Operation
  pub reads : List ℕ
  pub writes : List ℕ

-- how often this number is among these
abbrev pub times : ℕ → List ℕ → ℕ
times s [] = zero
times s (t ∷ ts) = if s == t then suc (times s ts) else times s ts

-- how often steps read a stream
abbrev pub uses : ℕ → List Step → ℕ
uses s [] = zero
uses s (step ∷ steps) = times s step.reads + uses s steps

-- what stands after a stream of the kind that has so many uses
abbrev pub places_after : (at s : ℕ) → Kind → ℕ → List Placed
places_after at s kind zero = record { at = at; operation = sink kind; reads = s ∷ []; writes = [] } ∷ []
places_after at s kind (suc zero) = []
places_after at s kind (suc (suc n)) = record { at = at; operation = fork kind (suc (suc n)); reads = s ∷ []; writes = replicate (suc (suc n)) s } ∷ []

-- as many numbers as there are kinds, from this one on
abbrev pub numbered : ℕ → List Kind → List ℕ
numbered s [] = []
numbered s (kind ∷ kinds) = s ∷ numbered (suc s) kinds

module _ (plan : List Step) where
  -- what stands after the streams of these kinds, the first of which has this number
  abbrev pub all_after : (at s : ℕ) → List Kind → List Placed
  all_after at s [] = []
  all_after at s (kind ∷ kinds) = places_after at s kind (uses s plan) ++ all_after at (suc s) kinds

  -- the transducers of these steps of the plan, the first of which writes the stream of this number
  abbrev pub layout_from : ℕ → List Step → List Placed
  layout_from s [] = []
  layout_from s (step ∷ steps) =
      let kinds = kinds_written step.operation in
      record { at = step.at; operation = step.operation; reads = step.reads; writes = numbered s kinds }
      ∷ (all_after step.at s kinds ++ layout_from (s + length kinds) steps)

  -- the numbers of the nodes of these steps, where the first of them is node k
  abbrev pub places_from : (k s : ℕ) → List Step → List ℕ
  places_from k s [] = []
  places_from k s (step ∷ steps) =
      let kinds = kinds_written step.operation in
      k ∷ places_from (suc (k + length (all_after step.at s kinds))) (s + length kinds) steps

-- the transducers of the network of a plan, in order
abbrev pub layout : List Step → List Placed
layout plan = layout_from plan zero plan

-- the numbers of the nodes of its steps
abbrev pub places : List Step → List ℕ
places plan = places_from plan zero zero plan

-- how many edges there are: one for each input port
abbrev pub edges_needed : List Placed → ℕ
edges_needed [] = zero
edges_needed (placed ∷ others) = length placed.reads + edges_needed others

-- the stream at output port q of node k, and that at its input port p
abbrev pub stream_from : List Placed → (k q : ℕ) → Option ℕ
stream_from nodes k q = bind (slice_get nodes k) (λ placed. slice_get placed.writes q)

abbrev pub stream_to : List Placed → (k p : ℕ) → Option ℕ
stream_to nodes k p = bind (slice_get nodes k) (λ placed. slice_get placed.reads p)

-- A port of a node, and the number of the stream at it.
pub record StreamPort : Type 0 where
  pub node : ℕ
  pub port : ℕ
  pub stream : ℕ

-- the ports of node k at these streams, the first of which is port p
abbrev pub ports_from : (k p : ℕ) → List ℕ → List StreamPort
ports_from k p [] = []
ports_from k p (s ∷ streams) = record { node = k; port = p; stream = s } ∷ ports_from k (suc p) streams

-- the ports at which these nodes read, the first of which is node k: node by node, port by port
abbrev pub inputs_from : ℕ → List Placed → List StreamPort
inputs_from k [] = []
inputs_from k (placed ∷ nodes) = ports_from k zero placed.reads ++ inputs_from (suc k) nodes

-- and those at which they write
abbrev pub outputs_from : ℕ → List Placed → List StreamPort
outputs_from k [] = []
outputs_from k (placed ∷ nodes) = ports_from k zero placed.writes ++ outputs_from (suc k) nodes

-- the first of these ports at which there is this stream; where there is none, the other one
abbrev pub first_at : ℕ → StreamPort → List StreamPort → StreamPort
first_at s other [] = other
first_at s other (port ∷ ports) = if port.stream == s then port else first_at s other ports

-- all of these ports but that one
abbrev pub without_first : ℕ → List StreamPort → List StreamPort
without_first s [] = []
without_first s (port ∷ ports) = if port.stream == s then ports else port ∷ without_first s ports

-- the edge from an output port to an input port
abbrev pub edge_between : (from to : StreamPort) → Edge
edge_between from to = record { writer = from.node; writer_port = from.port; reader = to.node; reader_port = to.port }

-- each of these input ports in turn is joined to the first output port of its stream that is left
abbrev pub edges_from : (inputs outputs : List StreamPort) → List Edge
edges_from [] outputs = []
edges_from (input ∷ inputs) outputs = edge_between (first_at input.stream input outputs) input ∷ edges_from inputs (without_first input.stream outputs)

-- The edges of a network of these transducers: one for each input port, numbered as these are, node by node and port by port.
-- So what stands after a stream reads it where it is written, and the outputs of a Fork go to the ports that read the
-- stream in the order of these.
abbrev pub edges_between : List Placed → List Edge
edges_between nodes = edges_from (inputs_from zero nodes) (outputs_from zero nodes)

-- A transducer in state s does what the operation says: it is in its opening state, its ports are of these kinds, and its row
-- is the function of the operation.
pub record Performs {S : Type 0} (b : Behaviour S) (operation : Operation) (s : S) : Type 0 where
  pub opened : b.opening s ≡ s
  pub inputs : b.inputs s ≡ length (kinds_read operation)
  pub outputs : b.outputs s ≡ length (kinds_written operation)
  pub kinds_in : (p : ℕ) → p < b.inputs s → slice_get (kinds_read operation) p ≡ Some (b.kind_in s p)
  pub kinds_out : (q : ℕ) → q < b.outputs s → slice_get (kinds_written operation) q ≡ Some (b.kind_out s q)
  pub row : IsFunction (b.row s) (made_by operation) (b.inputs s) (b.outputs s)

-- The nodes are as many as those of the plan, each reads as many streams as it has inputs, each edge joins two ports of one
-- stream, and the edges are just those between the plan's transducers.
pub record FollowsLayout {S : Type 0} (plan : List Step) (states : List S) (edges : List Edge) : Type 0 where
  pub nodes : length states ≡ length (layout plan)
  pub reads : (k : ℕ) (placed : Placed) → slice_get (layout plan) k ≡ Some placed → length placed.reads ≡ length (kinds_read placed.operation)
  pub joins : (e : ℕ) → e < length edges
      → stream_from (layout plan) (edge_at edges e).writer (edge_at edges e).writer_port
      ≡ stream_to (layout plan) (edge_at edges e).reader (edge_at edges e).reader_port
  pub edges_are : edges ≡ edges_between (layout plan)

-- The nodes and edges are laid out as the plan says, and each node does what the operation says that stands in its place.
pub record IsNetworkOfPlan {S : Type 0} (b : Behaviour S) (plan : List Step) (states : List S) (edges : List Edge) : Type 0 where
  pub laid : FollowsLayout plan states edges
  pub performs : (k : ℕ) (placed : Placed) → slice_get (layout plan) k ≡ Some placed → Performs b placed.operation (state_at b states k)

-- the body of each edge is the stream that it joins
abbrev pub AreCarried : List Step → Columns → List Edge → (ℕ → List Cell) → Type 0
AreCarried plan streams edges bodies =
    (e : ℕ) → e < length edges
    → bind (stream_from (layout plan) (edge_at edges e).writer (edge_at edges e).writer_port) (slice_get streams) ≡ Some (bodies e)
