pub mod Count
pub mod Memory
pub mod Reads
pub mod Writes
