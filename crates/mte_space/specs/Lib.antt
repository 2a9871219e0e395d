pub mod Spaces
pub mod Remembered
pub mod Writes
pub mod SpaceMemory
pub mod KeptSpaces
pub mod Places
