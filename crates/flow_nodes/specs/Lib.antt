pub mod functions
pub mod inputs
pub mod plans
pub mod PortRows
pub mod StreamNodes
pub mod KindLaws
