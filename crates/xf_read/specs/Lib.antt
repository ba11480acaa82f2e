pub mod Meant
pub mod Names
pub mod Scopes
pub mod Short
pub mod Spells
pub mod Types
pub mod Visible
pub mod Walks
