pub mod cut
pub mod Choices
pub mod Counts
pub mod Weights
