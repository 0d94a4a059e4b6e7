pub mod Tables
pub mod Lexing
pub mod Longest
pub mod OneReading
pub mod Dialects
