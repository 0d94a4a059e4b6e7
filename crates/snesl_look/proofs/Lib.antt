pub mod Offsets
pub mod Declarations
pub mod Told
pub mod Nearest
pub mod Edits
pub mod Least
pub mod Appended
