pub mod Standing
pub mod Epochs
pub mod Follow
pub mod Few
pub mod Rounds
pub mod Owners
pub mod Lent
