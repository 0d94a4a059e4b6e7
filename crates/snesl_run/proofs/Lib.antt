pub mod OfCommandLine
pub mod OfConsole
pub mod Reports
pub mod Printing
pub mod CutParts
pub mod Alike
