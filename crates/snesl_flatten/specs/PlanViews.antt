-- What callers see of a plan.
use Rattle.std.specs.Prelude.{List}
use Rattle.flow_networks.specs.declared.edge.Edge.{Edge}
use Rattle.flow_networks.specs.Graphs.{states_of, edges_of}
use Rattle.flow_nodes.specs.StreamNodes.{node_behaviour}
use Rattle.flow_nodes.specs.plans.Layouts.{IsNetworkOfPlan}
use Rattle.flow_nodes.specs.plans.Plans.{Step}
use Rattle.snesl_values.specs.Inputs.{environment_of}
use Rattle.snesl_values.specs.declared.environment.Inputs.{Inputs}
use Rattle.snesl_translation.specs.Programs.{cells_of}
use Rattle.snesl_types.specs.Typed.{typed_inputs, typed_text, typed_tree}
use Rattle.snesl_types.specs.declared.typed.TypedProgram.{TypedProgram}
use Rattle.snesl_flatten.specs.Networks.{StreamNodeState, program_steps}
use Rattle.snesl_flatten.specs.Unset.{AreButSources}
use Rattle.snesl_flatten.specs.Set.{MeansForTyped}
use Rattle.snesl_flatten.specs.declared.plan.Plan.{Plan}

-- the program of which it is the plan
abbrev pub plan_typed : Plan → TypedProgram
plan_typed plan = plan.typed.now

-- the states of the nodes of its network, and the edges
abbrev pub plan_states : Plan → List StreamNodeState
plan_states plan = states_of plan.graph

abbrev pub plan_edges : Plan → List Edge
plan_edges plan = edges_of plan.graph

-- its network is that of these steps
abbrev pub PlansSteps : List Step → Plan → Type 0
PlansSteps steps plan = IsNetworkOfPlan node_behaviour steps (plan_states plan) (plan_edges plan)

-- the steps of its program, whose sources write these inputs
abbrev pub steps_for : Plan → Inputs → List Step
steps_for plan inputs =
    program_steps (typed_text (plan_typed plan)) (typed_tree (plan_typed plan)) (typed_inputs (plan_typed plan))
    (cells_of (typed_inputs (plan_typed plan)) (environment_of inputs))

-- these states are those of its network, but for the sources of the inputs
abbrev pub AreButSourcesOf : Plan → List StreamNodeState → Type 0
AreButSourcesOf plan states = AreButSources (plan_typed plan) (plan_states plan) states

-- the network means what the plan's program does for these inputs
abbrev pub MeansFor : Plan → Inputs → List StreamNodeState → List Edge → Type 0
MeansFor plan inputs states edges = MeansForTyped (plan_typed plan) inputs states edges
