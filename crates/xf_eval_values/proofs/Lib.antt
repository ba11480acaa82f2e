pub mod StackLemmas
pub mod Values
pub mod SizeLemmas
pub mod GivenLemmas
