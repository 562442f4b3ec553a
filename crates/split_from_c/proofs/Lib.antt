-- The laws of the two operations from C.
pub mod Rooms
pub mod NamedKinds
