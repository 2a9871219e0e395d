pub mod Maps
pub mod Snapshots
pub mod Held
pub mod Comparisons
