pub mod Known
pub mod Reading
pub mod Writing
