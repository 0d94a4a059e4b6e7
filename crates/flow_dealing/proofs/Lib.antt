pub mod OfCut
pub mod Lists
pub mod Runs
pub mod Work
