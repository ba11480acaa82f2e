pub mod SpanLemmas
pub mod PlaceLemmas
pub mod FrameLemmas
pub mod OntoLemmas
pub mod ReadLemmas
pub mod ShapeLemmas
pub mod DimLemmas
pub mod BoxLemmas
