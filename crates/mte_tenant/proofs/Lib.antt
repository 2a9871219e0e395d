pub mod MachineLemmas
mod AloneLemmas
pub mod FirstLemmas
pub mod Refusals
pub mod Slices
