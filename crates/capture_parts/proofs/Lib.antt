-- The laws of a group's own bytes in a capture, and of what a reading hands over.
pub mod Times
pub mod Part
pub mod Given
