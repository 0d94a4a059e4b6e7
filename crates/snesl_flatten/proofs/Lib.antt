pub mod OfNetwork
pub mod OfTexts
-- that a node may go to another thread, which a drive asks of the nodes of a plan's graph
pub use Rattle.flow_nodes.proofs.Sending
mod Adding
mod Binding
mod Wired
mod Sources
mod Ends
mod InputValues
mod Meanings
mod Held
mod Once
mod Kept
mod InputStreams
mod InputSources
mod SetSources
