pub mod Bodies
pub mod Examples
pub mod Fitting
pub mod HeadLaws
pub mod Holding
pub mod Lawful
pub mod Leaving
mod Lookups
pub mod OfKind
pub mod Short
mod Turns
mod Types
pub mod Within
