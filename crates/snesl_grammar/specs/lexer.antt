pub mod Tables
pub mod Words
pub mod Signs
pub mod Lexical
pub mod Lexemes
pub mod Readings
