pub mod Operators
pub mod Reductions
