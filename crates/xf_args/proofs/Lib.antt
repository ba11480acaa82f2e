pub mod DenseLemmas
pub mod ListLemmas
