pub mod Inputs
pub mod Found
pub mod WithInputs
