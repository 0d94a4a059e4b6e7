pub mod Streaming
pub mod Jobs
pub mod SomeJob
pub mod Parts
pub mod Beginnings
pub mod Splits
pub mod Printing
pub mod OwnLines
