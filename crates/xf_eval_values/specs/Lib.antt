pub mod Held
pub mod Meets
pub mod Stack
pub mod Sizes
pub mod Given
