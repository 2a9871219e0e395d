pub mod Encodings
pub mod Numbers
pub mod Programs
pub mod Readings
pub mod SignedBytes
pub mod Texts
