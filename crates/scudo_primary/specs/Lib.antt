pub mod Blocks
pub mod Batches
pub mod Pools
pub mod Inner
pub mod Caches
pub mod CacheInner
