pub mod Laid
pub mod Layout
pub mod Lines
pub mod Same
pub mod Spacing
