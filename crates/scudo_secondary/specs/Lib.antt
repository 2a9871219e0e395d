pub mod Mappings
pub mod Inner
