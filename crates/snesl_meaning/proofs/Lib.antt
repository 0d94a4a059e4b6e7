pub mod OfWorked
pub mod Giving
pub mod InRange
pub mod Meanings
pub mod NotOfMemory
pub mod SomeMeaning
