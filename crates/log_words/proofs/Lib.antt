-- The laws of the words of items.
pub mod Row
pub mod Words
pub mod Laying
pub mod Same
pub mod ByKind
pub mod Logged
