pub mod Places
pub mod Written
pub mod Behind
pub mod Nodes
pub mod FlowsBelow
pub mod PlansOfFlows
pub mod FlowsOfPlans
pub mod Sources
