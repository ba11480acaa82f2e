pub mod MirrorLemmas
pub mod PathLemmas
pub mod GroupLemmas
pub mod GrowLemmas
