pub mod Operands
pub mod BlockLemmas
pub mod Greatest
pub mod Ascending
