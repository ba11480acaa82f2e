pub mod Bytes
pub mod Classes
pub mod Lexemes
pub mod Layout
pub mod Laws
pub mod Lexes
