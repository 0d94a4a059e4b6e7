pub mod culprits
pub mod reach
pub mod Advice
pub mod Brackets
pub mod Followers
pub mod Told
