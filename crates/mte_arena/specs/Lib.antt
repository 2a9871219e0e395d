pub mod Blocks
pub mod Frames
pub mod FrameLends
pub mod Ownership
pub mod RegionLends
pub mod Whole
