pub mod Visible
pub mod Symbols
pub mod Chains
pub mod Answers
pub mod Judged
