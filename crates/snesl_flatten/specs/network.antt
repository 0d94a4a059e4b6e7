pub mod NodesAtRest
pub mod WhichDrive
pub mod Driven
pub mod Meant
pub mod OneNetwork
