pub mod Loads
pub mod Near
