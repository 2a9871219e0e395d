pub mod Frames
pub mod LentParts
mod Memory
pub mod Parts
pub mod Runs
pub mod Sharing
pub mod Steps
pub mod Tags
pub mod Values
pub mod Written
pub mod Zeros
