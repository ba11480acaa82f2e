pub mod DenseLemmas
pub mod SliceLemmas
pub mod Indices
pub mod DimSets
pub mod NamedMaps
pub mod ExtentLemmas
pub mod DependentLemmas
