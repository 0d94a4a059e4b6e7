pub mod NoEnds
pub mod Ints
