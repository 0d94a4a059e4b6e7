pub mod Marks
pub mod Parts
pub mod Places
pub mod Objects
