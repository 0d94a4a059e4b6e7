pub mod Contexts
pub mod Sizes
pub mod Forms
pub mod Typing
pub mod Violations
pub mod Ranges
pub mod Programs
pub mod Verdicts
pub mod Names
pub mod Views
pub mod Typed
pub mod Soundness
pub mod Clashes
pub mod Misfitting
-- what the public clauses cite of the crates below
pub use Rattle.snesl_data.specs.declared.refusal.Refusal
pub use Rattle.snesl_values.specs.Inputs
pub use Rattle.snesl_data.specs.Types
pub use Rattle.snesl_grammar.specs.tree.Tree
pub use Rattle.snesl_grammar.specs.tree.Spelling
pub use Rattle.snesl_grammar.specs.tree.View
pub use Rattle.snesl_grammar.specs.declared.program.Program
pub use Rattle.snesl_grammar.specs.View as GrammarView
pub use Rattle.snesl_evaluation.specs.Eval
pub use Rattle.snesl_evaluation.specs.Results
