pub mod Readers
pub mod Machine
pub mod Parts
pub mod Parsing
