pub mod strangers
pub mod Values
pub mod Types
pub mod Flatten
pub mod Run
pub mod Drive
