pub mod Adding
pub mod Sources
pub mod Comparisons
