pub mod Inner
pub mod MappedPages
pub mod Snapshots
