pub mod Views
pub mod Added
