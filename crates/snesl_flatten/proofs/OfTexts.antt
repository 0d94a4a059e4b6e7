pub mod LastTexts
pub mod Printing
