pub mod Laws
pub mod Shapes
pub mod TypeWords
pub mod Widths
pub mod Written
