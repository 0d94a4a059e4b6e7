pub mod Staying
pub mod Sizes
pub mod Tables
