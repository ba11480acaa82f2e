pub mod Dims
pub mod Extents
pub mod Dependents
