pub mod crossing
pub mod Ports
pub mod Ring
pub mod Edge
