pub mod Quoting
pub mod Words
pub mod Forms
pub mod Lines
pub mod Texts
pub mod Networks
