pub mod Actions
pub mod Fits
pub mod Laws
pub mod Machine
pub mod Nests
pub mod Printed
pub mod Reading
