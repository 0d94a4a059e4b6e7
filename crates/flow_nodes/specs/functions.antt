pub mod Decoded
pub mod Lists
pub mod Made
pub mod RowsAreFunctions
