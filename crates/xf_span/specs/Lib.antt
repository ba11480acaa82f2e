pub mod Code
pub mod Fault
pub mod Limit
pub mod Line
pub mod Place
