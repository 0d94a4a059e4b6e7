pub mod Openings
pub mod Joined
pub mod Ready
pub mod Tables
pub mod Partly
pub mod GraphsOfPlans
pub mod OneNetwork
