pub mod Files
pub mod Going
pub mod Steps
pub mod Texts
pub mod TokenPlaces
pub mod TreesWithin
