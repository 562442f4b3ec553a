-- The laws of the replay.
pub mod Running
pub mod Giving
