pub mod AgainLaws
pub mod Laws
pub mod Printable
pub mod PrintedLaws
pub mod SaidWell
