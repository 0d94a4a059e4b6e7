pub mod FlagTables
pub mod FlagBlocks
pub mod FlagOfBoolMachine
pub mod TheCheckMachine
pub mod SameFlagsMachine
pub mod PackMachine
pub mod ConcatFlagsMachine
pub mod InterleaveMachine
pub mod AppendFlagsMachine
pub mod PackGroupsMachine
pub mod DistMachine
pub mod InterleaveGroupsMachine
pub mod PartFlagsMachine
pub mod Rows
pub mod laws
pub mod DistSteps
pub mod FlagSteps
-- what the public clauses cite of the crates below
pub use Rattle.snesl_data.specs.Types
pub use Rattle.snesl_data.specs.Values
pub use Rattle.flow_messages.specs.declared.message.Kind
pub use Rattle.flow_messages.specs.Cells
pub use Rattle.flow_messages.specs.Signals
pub use Rattle.flow_base.specs.Machines
pub use Rattle.flow_base.specs.Workers
pub use Rattle.flow_base.specs.Calls
-- and those of the nodes of vectors and of the text
pub use Rattle.flow_values.specs.Shapes
pub use Rattle.flow_values.specs.TabMachine
pub use Rattle.flow_values.specs.SeqMachine
pub use Rattle.flow_values.specs.IndexMachine
pub use Rattle.flow_values.specs.PrintMachine
pub use Rattle.flow_values.specs.Rows as ValueBlocks
pub use Rattle.flow_values.specs.Parts
pub use Rattle.flow_values.specs.laws.Print
