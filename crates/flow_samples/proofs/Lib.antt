pub mod BlocksOfKind
pub mod Taking
