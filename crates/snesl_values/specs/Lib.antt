pub mod InputTokens
pub mod Spellings
pub mod Declarations
pub mod Marks
pub mod Places
pub mod Pendings
pub mod Entries
pub mod Inputs
pub mod Wants
-- what the contracts cite: dialects, types, values and their text, faults, refusals, and counts of failures
pub use Rattle.snesl_data.specs.declared.dialect.Dialect
pub use Rattle.snesl_data.specs.declared.ty.Ty as TypeOf
pub use Rattle.snesl_data.specs.declared.datum.Datum
pub use Rattle.snesl_data.specs.declared.datum.Elements
pub use Rattle.snesl_data.specs.declared.builder.Builder
pub use Rattle.snesl_data.specs.declared.fault.Fault
pub use Rattle.snesl_data.specs.declared.fault.FaultKind
pub use Rattle.snesl_data.specs.declared.refusal.Refusal
pub use Rattle.snesl_data.specs.declared.counted.Counted
pub use Rattle.snesl_data.specs.Integers
pub use Rattle.snesl_data.specs.Types
pub use Rattle.snesl_data.specs.Values
pub use Rattle.snesl_data.specs.Builders
pub use Rattle.snesl_data.specs.Faults
pub use Rattle.snesl_data.specs.Refusals
pub use Rattle.snesl_data.specs.Text
pub use Rattle.snesl_data.specs.Counted as Counts
pub use Rattle.snesl_data.specs.Blanks
pub use Rattle.snesl_data.specs.Characters
