pub mod CellLemmas
pub mod UseLemmas
pub mod MoveLemmas
pub mod GrowLemmas
pub mod WalkLemmas
