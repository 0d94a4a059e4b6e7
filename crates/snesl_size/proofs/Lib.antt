pub mod Staying
pub mod Searching
pub mod Tables
