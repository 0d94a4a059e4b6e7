-- what the contracts cite: of graphs, and of those that are built
pub use Rattle.snesl_data.specs.declared.refusal.Refusal
pub use Rattle.flow_networks.specs.declared.edge.Edge
pub use Rattle.flow_networks.specs.declared.graph.Graph
pub use Rattle.flow_networks.specs.declared.graph.GraphBuilder
pub use Rattle.flow_networks.specs.declared.settled.Settled
pub use Rattle.flow_networks.specs.declared.step.Stepped
pub use Rattle.flow_networks.specs.Alike
pub use Rattle.flow_networks.specs.Blocks
pub use Rattle.flow_networks.specs.EdgeKinds
pub use Rattle.flow_networks.specs.Edges
pub use Rattle.flow_networks.specs.FlowTheorems
pub use Rattle.flow_networks.specs.Flows
pub use Rattle.flow_networks.specs.Graphs
pub use Rattle.flow_networks.specs.Laws
pub use Rattle.flow_networks.specs.Limits
pub use Rattle.flow_networks.specs.MaximalRuns
pub use Rattle.flow_networks.specs.Networks
pub use Rattle.flow_networks.specs.Schedules
pub use Rattle.flow_networks.specs.Settling
pub use Rattle.flow_networks.specs.Shapes
pub use Rattle.flow_networks.specs.Standing
pub use Rattle.flow_networks.specs.Steps
pub use Rattle.flow_networks.specs.Turns
pub use Rattle.flow_networks.specs.Visits
-- of the nodes
pub use Rattle.flow_nodes.specs.StreamNodes
pub use Rattle.flow_base.specs.RowPorts
pub use Rattle.flow_base.specs.Transducers
pub use Rattle.flow_base.specs.Visits as NodeVisits
-- of edges, and of networks
pub use Rattle.flow_messages.specs.Ends
pub use Rattle.flow_messages.specs.Kinds
pub use Rattle.flow_messages.specs.Limits as EdgeLimits
pub use Rattle.flow_messages.specs.Signals
pub use Rattle.kahn.specs.declared.outcome.Outcome
pub use Rattle.kahn.specs.declared.want.Want
pub use Rattle.kahn.specs.Configurations
pub use Rattle.kahn.specs.Outcomes
pub use Rattle.kahn.specs.Processes
pub use Rattle.kahn.specs.Runs
