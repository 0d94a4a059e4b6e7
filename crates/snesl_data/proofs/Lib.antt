pub mod OfOperators
pub mod Data
pub mod Places
pub mod SameTypes
pub mod Sends
pub mod Texts
