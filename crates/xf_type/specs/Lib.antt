pub mod Integers
pub mod Laws
pub mod Limits
pub mod Bytes
pub mod Spelling
pub mod Equal
