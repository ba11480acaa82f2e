pub mod Codes
pub mod File
pub mod Laws
pub mod Telling
pub mod View
pub mod Within
pub mod Written
