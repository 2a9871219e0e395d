pub mod Classes
pub mod ByClass
pub mod Regions
pub mod Headers
