pub mod OfLexer
pub mod OfTree
