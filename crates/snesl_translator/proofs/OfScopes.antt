pub mod Among
pub mod Moved
pub mod Values
