-- The laws of both readings from C, over plain numbers and lists.
pub mod NamedKinds
pub mod Rooms
