pub mod Indices
pub mod Sizes
pub mod Dense
pub mod Named
pub mod Slices
