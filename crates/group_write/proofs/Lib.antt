-- The laws of one group as written, over plain numbers and lists.
pub mod Laws
pub mod Words
pub mod Dealt
pub mod Runs
pub mod Frames
pub mod Front
pub mod Tops
