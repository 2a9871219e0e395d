pub mod MappingLemmas
pub mod PlaceLemmas
