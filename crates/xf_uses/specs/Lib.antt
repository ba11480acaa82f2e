pub mod Cells
pub mod Uses
pub mod Walks
pub mod Stores
