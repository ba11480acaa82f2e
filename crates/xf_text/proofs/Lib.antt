pub mod Found
pub mod Scripts
