pub mod OperandTypes
pub mod Attributes
pub mod Given
