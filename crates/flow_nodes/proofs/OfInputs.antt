pub mod Lefts
pub mod Law
pub mod Skips
pub mod Main
pub mod Edges
pub mod Sending
pub mod Blocks
pub mod Elements
