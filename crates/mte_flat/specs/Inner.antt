pub mod Slots
pub mod Places
pub mod FlatMemory
pub mod MappedSlots
pub mod Written
pub mod Since
pub mod SnapshotView
