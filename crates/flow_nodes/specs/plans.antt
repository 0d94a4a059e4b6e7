pub mod Plans
pub mod Ports
pub mod Layouts
pub mod PlanFlows
pub mod Views
pub mod Settings
