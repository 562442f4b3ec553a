-- The laws of composing from C, over plain numbers and lists.
pub mod NamedKinds
pub mod Ragged
