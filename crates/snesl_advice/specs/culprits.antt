pub mod Offsets
pub mod Faults
pub mod Culprits
pub mod Views
