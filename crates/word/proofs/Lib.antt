-- The laws of one word, over plain numbers and lists.
pub mod Ones
pub mod Below
pub mod Halves
pub mod Stored
