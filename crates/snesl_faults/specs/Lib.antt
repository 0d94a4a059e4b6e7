pub mod Faults
pub mod Notes
