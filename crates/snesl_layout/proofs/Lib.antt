pub mod Moved
pub mod Names
pub mod Words
pub mod OneProgram
