-- How far a plan is built.
use Rattle.std.specs.Prelude.{◌≡◌, ℕ, ◌+◌, ◌<◌, ◌≤◌, ◌⊎◌, List, [], ◌++◌, length, map, take, drop, Some, if◌then◌else◌, nat_lt, slice_index_or}
use Rattle.std.specs.List.{slice_get, range_with_len}
use Rattle.flow_messages.specs.declared.message.Kind.{Kind}
use Rattle.flow_networks.specs.declared.edge.Edge.{Edge}
use Rattle.flow_networks.specs.Limits.{most_nodes, most_edges}
use Rattle.flow_nodes.specs.StreamNodes.{NodeKind, member, node_behaviour}
use Rattle.flow_nodes.specs.plans.Plans.{Step}
use Rattle.flow_nodes.specs.plans.Ports.{kinds_after}
use Rattle.flow_nodes.specs.plans.Views.{steps_of}
use Rattle.flow_nodes.specs.plans.Layouts.{Placed, uses, layout, layout_from, places, places_from, edges_needed}
use Rattle.flow_assembly.specs.declared.network.Port.{Port}
use Rattle.flow_assembly.specs.declared.counted_steps.CountedSteps.{CountedSteps}
use Rattle.flow_assembly.specs.Joined.{IsJoinedTo}

-- the steps of the plan
abbrev pub plan_of : CountedSteps → List Step
plan_of plan = steps_of plan.dialect plan.steps.items

-- how often each stream is read is what the table says; a stream that is not in it is not read
abbrev pub IsCounted : List ℕ → List Step → Type 0
IsCounted table plan = (s : ℕ) → slice_index_or table s 0 ≡ uses s plan

-- the network of the plan has more nodes or more edges than a graph may have
abbrev pub IsTooBig : List Step → Type 0
IsTooBig plan = (most_nodes < length (layout plan)) ⊎ (most_edges < edges_needed (layout plan))

-- it has no more
abbrev pub IsSmallEnough : List Step → Type 0
IsSmallEnough plan = (length (layout plan) ≤ most_nodes) × (edges_needed (layout plan) ≤ most_edges)

-- Nothing of the limits is passed, and beside these edges so many are due at these nodes, and all those at the nodes to come.
pub record KeepsLimits (plan : List Step) (states : List ((t : NodeKind) × (member t).State)) (edges : List Edge) (due : ℕ) : Type 0 where
  pub few_nodes : length states ≤ most_nodes
  pub few_edges : length edges ≤ most_edges
  pub all_edges : length edges + (due + edges_needed (drop (length states) (layout plan))) ≡ edges_needed (layout plan)

-- The first i steps of the plan are built, and these are the numbers of their nodes.
pub record IsBuiltTo (plan : List Step) (i : ℕ) (supply : List Port) (found : List ℕ) (states : List ((t : NodeKind) × (member t).State)) (edges : List Edge) : Type 0 where
  pub inside : length states ≤ length (layout plan)
  pub nodes : drop (length states) (layout plan) ≡ layout_from plan (length supply) (drop i plan)
  pub streams : length supply ≡ length (kinds_after [] (take i plan))
  pub steps : length found ≡ i
  pub places : found ++ places_from plan (length states) (length supply) (drop i plan) ≡ places plan
  pub within : KeepsLimits plan states edges 0
  pub joined : IsJoinedTo (layout plan) (λ s. uses s (drop i plan)) supply (length states) 0 states edges

-- how many uses a stream has left once these steps are left, where what stands after the streams from this one on is to come
abbrev pub left_before : List Step → (stream s : ℕ) → ℕ
left_before steps stream s = if nat_lt s stream then uses s steps else 1

-- What stands after the streams before this one is built.
pub record IsPutTo (plan : List Step) (stream : ℕ) (supply : List Port) (found : List ℕ) (states : List ((t : NodeKind) × (member t).State)) (edges : List Edge) : Type 0 where
  pub within : KeepsLimits plan states edges 0
  pub joined : IsJoinedTo (layout plan) (left_before (drop (length found) plan) stream) supply (length states) 0 states edges

-- so many output ports of a node, from its first on
abbrev pub ports_of : (node outputs : ℕ) → List Port
ports_of node outputs = map (λ q. record { node = node; port = q }) (range_with_len 0 outputs)

-- the transducer in this state writes streams of these kinds, port by port
pub record WritesKinds (s : (t : NodeKind) × (member t).State) (kinds : List Kind) : Type 0 where
  pub outputs : length kinds ≡ node_behaviour.outputs s
  pub kinds_out : (q : ℕ) → q < node_behaviour.outputs s → slice_get kinds q ≡ Some (node_behaviour.kind_out s q)

-- these transducers come next
abbrev pub AreNextInLayout : List Step → List ((t : NodeKind) × (member t).State) → List Placed → Type 0
AreNextInLayout plan states nodes =
    (k : ℕ) (placed : Placed) → slice_get nodes k ≡ Some placed → slice_get (layout plan) (length states + k) ≡ Some placed
