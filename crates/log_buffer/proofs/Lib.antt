-- The laws of the buffer as numbers.
pub mod Loads
pub mod Levels
