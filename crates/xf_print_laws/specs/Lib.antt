pub mod Laws
pub mod LayoutLaws
pub mod Naming
pub mod SaidPrinted
pub mod Stored
