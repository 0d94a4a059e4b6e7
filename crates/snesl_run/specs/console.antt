pub mod Job
pub mod Parts
pub mod Beginnings
pub mod Streams
pub mod Lines
pub mod Reads
