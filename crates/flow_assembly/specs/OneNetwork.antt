-- A plan has one network.
use Rattle.std.specs.Prelude.{◌≡◌, List}
use Rattle.flow_networks.specs.declared.edge.Edge.{Edge}
use Rattle.flow_nodes.specs.StreamNodes.{NodeKind, member, node_behaviour}
use Rattle.flow_nodes.specs.plans.Plans.{Step}
use Rattle.flow_nodes.specs.plans.Layouts.{layout, FollowsLayout}
use Rattle.flow_assembly.specs.Openings.{AllOpen}

-- These are the nodes and edges of the plan's network, each node in the state in which it opens.
pub record OpensAs (plan : List Step) (states : List ((t : NodeKind) × (member t).State)) (edges : List Edge) : Type 0 where
  pub network : FollowsLayout plan states edges
  pub opens : AllOpen (layout plan) states

-- no plan has two: they agree node by node and edge by edge
abbrev pub PlansHaveOneNetwork : Type 0
PlansHaveOneNetwork =
    (plan : List Step) (states others : List ((t : NodeKind) × (member t).State)) (edges more : List Edge)
    → OpensAs plan states edges → OpensAs plan others more → (states ≡ others) × (edges ≡ more)
