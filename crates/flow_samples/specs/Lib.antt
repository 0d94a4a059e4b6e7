pub mod Joined
pub mod Taking
