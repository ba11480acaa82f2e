pub mod Arith
pub mod Bodies
pub mod Reducing
