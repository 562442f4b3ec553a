-- The laws of the salvage of groups.
pub mod Groups
pub mod Turns
