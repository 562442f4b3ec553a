-- The laws of a salvage from C.
pub mod Rooms
pub mod NamedKinds
