-- The laws of the salvage of a row.
pub mod Held
pub mod Rows
pub mod Steps
pub mod Sounds
pub mod Went
