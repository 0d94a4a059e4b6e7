pub mod expressions
pub mod Types
pub mod Programs
pub mod Dialects
pub mod TypeMachine
pub mod ProgramMachine
pub mod DialectMachine
pub mod Answer
pub mod Parse
-- what the public clauses cite of the crates below
pub use Rattle.snesl_data.specs.declared.refusal.Refusal
pub use Rattle.snesl_grammar.specs.declared.program.Program
pub use Rattle.snesl_grammar.specs.Limits
pub use Rattle.snesl_grammar.specs.View as GrammarView
pub use Rattle.snesl_grammar.specs.tree.Tree
pub use Rattle.snesl_grammar.specs.tree.View
pub use Rattle.snesl_grammar.specs.tree.Spelling
