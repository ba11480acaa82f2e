pub mod Lines
pub mod OneVerdict
pub mod Refused
