pub mod Closed
pub mod Read
pub mod Slots
