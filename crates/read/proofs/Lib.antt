-- The laws of the readings.
pub mod Given
pub mod Short
