pub mod ImageLemmas
pub mod LoadingLemmas
pub mod PageLemmas
pub mod WholeLemmas
