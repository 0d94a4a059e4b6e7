pub mod Refusing
pub mod Planning
pub mod Resting
pub mod OneNetwork
