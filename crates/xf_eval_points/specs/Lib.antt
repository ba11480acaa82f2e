pub mod Spans
pub mod Places
pub mod Frames
pub mod Onto
pub mod Bodies
