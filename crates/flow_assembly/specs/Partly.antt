-- What is said of a network while it is built.
use Rattle.std.specs.Prelude.{◌≡◌, ℕ, ◌+◌, ◌⊎◌, List, [], ◌∷◌, ◌++◌, length, drop, slice_set}
use Rattle.flow_messages.specs.declared.message.Kind.{Kind}
use Rattle.flow_networks.specs.Graphs.{states_so_far, edges_so_far}
use Rattle.flow_networks.specs.Limits.{most_nodes, most_edges}
use Rattle.flow_networks.specs.Networks.{MayJoin}
use Rattle.flow_nodes.specs.StreamNodes.{node_behaviour, state_of}
use Rattle.flow_nodes.specs.declared.stream_node.StreamNode.{StreamNode}
use Rattle.flow_nodes.specs.plans.Plans.{Step}
use Rattle.flow_nodes.specs.plans.Layouts.{Placed, times, uses, places_after, all_after, layout}
use Rattle.flow_assembly.specs.declared.counted_steps.CountedSteps.{CountedSteps}
use Rattle.flow_assembly.specs.declared.network.Network.{Network}
use Rattle.flow_assembly.specs.Joined.{supplier, edge_from, port_after, IsJoinedTo}
use Rattle.flow_assembly.specs.Ready.{plan_of, ports_of, KeepsLimits, IsBuiltTo, IsPutTo, AreNextInLayout}

-- how many nodes the network has
abbrev pub node_count : Network → ℕ
node_count network = length (states_so_far network.builder)

-- it has as many nodes, or as many edges, as a graph may have
abbrev pub IsAtLimit : Network → Type 0
IsAtLimit network = (node_count network ≡ most_nodes) ⊎ (length (edges_so_far network.builder) ≡ most_edges)

-- its next reader may read the stream at this input port
abbrev pub MayRead : Network → (stream reader port : ℕ) → Type 0
MayRead network stream reader port =
    MayJoin node_behaviour (states_so_far network.builder) (edges_so_far network.builder) (edge_from (supplier network.supply.items stream) reader port)

-- and, once this transducer is the last node, at its first input port
abbrev pub MayAttach : Network → StreamNode → (stream : ℕ) → Type 0
MayAttach network node stream =
    MayJoin node_behaviour (states_so_far network.builder ++ state_of node ∷ []) (edges_so_far network.builder)
    (edge_from (supplier network.supply.items stream) (length (states_so_far network.builder)) 0)

-- later the stream is read at this input port: there is one edge more, after all others
abbrev pub AddsEdge : Network → (stream reader port : ℕ) → Network → Type 0
AddsEdge network stream reader port later =
    edges_so_far later.builder ≡ edges_so_far network.builder ++ edge_from (supplier network.supply.items stream) reader port ∷ []

-- later its next reader gets the stream at the next output port
abbrev pub MovesSupplier : Network → (stream : ℕ) → Network → Type 0
MovesSupplier network stream later =
    later.supply.items ≡ slice_set network.supply.items stream (port_after (supplier network.supply.items stream))

-- later there are the streams of so many output ports of the node, after all others
abbrev pub AddsStreams : Network → (node outputs : ℕ) → Network → Type 0
AddsStreams network node outputs later = later.supply.items ≡ network.supply.items ++ ports_of node outputs

-- later there are as many nodes more as these are
abbrev pub GrowsBy : Network → List Placed → Network → Type 0
GrowsBy network nodes later = node_count later ≡ node_count network + length nodes

module _ (plan : CountedSteps) where
  -- the first steps of the plan are built in the network, so many
  abbrev pub HasSteps : ℕ → Network → Type 0
  HasSteps number network =
      IsBuiltTo (plan_of plan) number network.supply.items network.places.items (states_so_far network.builder) (edges_so_far network.builder)

  -- and what stands after the streams before this one
  abbrev pub HasPutBefore : (stream : ℕ) → Network → Type 0
  HasPutBefore stream network =
      IsPutTo (plan_of plan) stream network.supply.items network.places.items (states_so_far network.builder) (edges_so_far network.builder)

  -- nothing of the limits is passed, and so many edges are due at the nodes that there are
  abbrev pub OwesEdges : ℕ → Network → Type 0
  OwesEdges due network = KeepsLimits (plan_of plan) (states_so_far network.builder) (edges_so_far network.builder) due

  -- the steps of the plan that the network does not have
  abbrev pub steps_left : Network → List Step
  steps_left network = drop (length network.places.items) (plan_of plan)

  -- all uses of the stream are by these
  abbrev pub HasAllUsesLeft : Network → (stream : ℕ) → Type 0
  HasAllUsesLeft network stream = uses stream (plan_of plan) ≡ uses stream (steps_left network)

  -- the last node is to read these streams, and no port of it is joined
  abbrev pub IsToRead : Network → (node : ℕ) → (reads : List ℕ) → Type 0
  IsToRead network node reads =
      IsJoinedTo (layout (plan_of plan)) (λ s. times s reads + uses s (steps_left network)) network.supply.items node 0
      (states_so_far network.builder) (edges_so_far network.builder)

  -- later its ports before this one are joined, and just the steps that the network does not have are to read more
  abbrev pub HasReadTo : Network → (node port : ℕ) → Network → Type 0
  HasReadTo network node port later =
      IsJoinedTo (layout (plan_of plan)) (λ s. uses s (steps_left network)) later.supply.items node port
      (states_so_far later.builder) (edges_so_far later.builder)

  -- what stands after the stream
  abbrev pub node_after : (at stream : ℕ) → Kind → List Placed
  node_after at stream kind = places_after at stream kind (uses stream (plan_of plan))

  -- and after the streams of these kinds, the first of which has this number
  abbrev pub nodes_after : (at first : ℕ) → List Kind → List Placed
  nodes_after at first kinds = all_after (plan_of plan) at first kinds

  -- these transducers come next
  abbrev pub AreNext : List Placed → Network → Type 0
  AreNext nodes network = AreNextInLayout (plan_of plan) (states_so_far network.builder) nodes
