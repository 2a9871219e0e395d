pub mod Drawing
pub mod Effects
pub mod FixedSteps
mod GranuleWrites
pub mod Modes
pub mod Running
