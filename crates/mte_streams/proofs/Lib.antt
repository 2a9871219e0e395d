pub mod KnownLemmas
pub mod WriteLemmas
pub mod ReadLemmas
