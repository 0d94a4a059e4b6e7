pub mod steps
pub mod scopes
pub mod Called
pub mod Rows
pub mod Translated
pub mod Forms
