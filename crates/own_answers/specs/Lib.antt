pub mod Segments
pub mod Writing
