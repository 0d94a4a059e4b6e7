pub mod OfCrossing
pub mod Lists
pub mod Flats
pub mod Sends
