pub mod network
pub mod texts
pub mod Behind
pub mod Networks
pub mod PlanViews
pub mod Set
pub mod Sources
pub mod Unset
-- what the public clauses cite of the crates below
pub use Rattle.snesl_values.specs.Inputs
pub use Rattle.snesl_data.specs.declared.refusal.Refusal
pub use Rattle.snesl_types.specs.Typed
pub use Rattle.flow_nodes.specs.StreamNodes
pub use Rattle.flow_networks.specs.Graphs
pub use Rattle.flow_networks.specs.Limits
pub use Rattle.flow_networks.specs.Networks as GraphNetworks
pub use Rattle.flow_nodes.specs.plans.Layouts
pub use Rattle.flow_assembly.specs.Openings
pub use Rattle.flow_assembly.specs.GraphsOfPlans
pub use Rattle.flow_assembly.specs.Ready
pub use Rattle.snesl_translation.specs.Programs
