pub mod Attributes
pub mod Fills
pub mod Items
pub mod Names
pub mod Numbers
pub mod PrintedForm
pub mod Structured
pub mod Words
