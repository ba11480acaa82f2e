pub mod Names
pub mod Without
pub mod Puts
pub mod Inner
pub mod Listed
pub mod Kids
pub mod Fills
pub mod Rebuilds
