pub mod Scopes
pub mod Moved
