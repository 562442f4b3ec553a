-- The laws of one event.
pub mod Putting
pub mod Turning
