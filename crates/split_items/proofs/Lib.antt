-- The laws of words turned into a log.
pub mod Numbers
pub mod Running
pub mod Given
