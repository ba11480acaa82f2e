pub mod Payload
pub mod Laws
