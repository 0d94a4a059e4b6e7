pub mod Length
pub mod Reduce
pub mod ScanAdd
