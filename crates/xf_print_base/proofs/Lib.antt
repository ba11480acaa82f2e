pub mod Texts
pub mod Results
pub mod ListLemmas
pub mod InsAndOuts
pub mod PlaceTexts
pub mod MapTexts
