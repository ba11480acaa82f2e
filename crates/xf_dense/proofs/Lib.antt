mod Examples
pub mod Forms
pub mod Lawful
pub mod PrintedNests
pub mod Quiet
pub mod Reaching
mod Turns
mod Within
