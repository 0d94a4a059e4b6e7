-- The lawful flows of the network of a plan are the streams to which the plan runs.
use Rattle.std.specs.Prelude.{◌≡◌, ℕ, List, [], Some}
use Rattle.flow_messages.specs.Cells.{Cell}
use Rattle.flow_base.specs.Columns.{Columns}
use Rattle.flow_base.specs.Transducers.{Behaviour}
use Rattle.flow_networks.specs.declared.edge.Edge.{Edge}
use Rattle.flow_networks.specs.Flows.{IsLawfulFlow}
use Rattle.flow_nodes.specs.plans.Plans.{Step, run}
use Rattle.flow_nodes.specs.plans.Layouts.{IsNetworkOfPlan, AreCarried}

module _ {S : Type 0} (b : Behaviour S) (states : List S) (edges : List Edge) where
  -- where the plan runs, its streams are a lawful flow of its network
  abbrev pub PlanIsFlow : Type 0
  PlanIsFlow =
      (plan : List Step) → IsNetworkOfPlan b plan states edges
      → (streams : Columns) → run plan [] ≡ Some streams
      → (bodies : ℕ → List Cell) × IsLawfulFlow b states edges bodies × AreCarried plan streams edges bodies

  -- and where its network has a lawful flow, the plan runs, to streams of which this flow is made
  abbrev pub FlowIsPlan : Type 0
  FlowIsPlan =
      (plan : List Step) → IsNetworkOfPlan b plan states edges
      → (bodies : ℕ → List Cell) → IsLawfulFlow b states edges bodies
      → (streams : Columns) × (run plan [] ≡ Some streams) × AreCarried plan streams edges bodies
