pub mod OfStrangers
mod Checked
mod Passing
mod Running
mod Carrying
mod Resting
mod Named
mod Planned
