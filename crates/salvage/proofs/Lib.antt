-- The laws of the call.
pub mod Rooms
