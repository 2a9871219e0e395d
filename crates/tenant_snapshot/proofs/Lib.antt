pub mod Handles
pub mod LooseBoxes
mod UncheckedReads
