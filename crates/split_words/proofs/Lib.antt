-- The laws of the words that a capture hands out.
pub mod Groups
pub mod Given
