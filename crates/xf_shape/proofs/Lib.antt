pub mod Again
pub mod Dimensions
pub mod Passing
