pub mod Lexemes
pub mod LayoutLemmas
pub mod Lexing
pub mod Stays
