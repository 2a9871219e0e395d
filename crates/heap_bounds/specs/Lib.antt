pub mod Blocks
pub mod Chunks
pub mod Extents
pub mod KeptChunks
pub mod LiveBytes
pub mod NearBytes
pub mod NearChunks
