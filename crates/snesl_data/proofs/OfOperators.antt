pub mod OperatorLaws
pub mod ReductionLaws
