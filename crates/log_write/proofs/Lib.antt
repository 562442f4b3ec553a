pub mod Packing
pub mod Writing
