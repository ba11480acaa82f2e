pub mod LawLemmas
pub mod Numbers
pub mod EqualTypes
