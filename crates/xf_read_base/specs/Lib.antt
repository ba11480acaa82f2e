pub mod Attributes
pub mod Elements
pub mod Numbers
pub mod Spelt
pub mod Stops
pub mod Structured
pub mod Values
pub mod Verdicts
