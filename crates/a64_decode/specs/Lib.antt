pub mod Fields
pub mod Groups
pub mod Decoded
pub mod DecodeCache
