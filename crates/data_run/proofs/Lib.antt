-- The laws of the data words of a row.
pub mod OneSlot
pub mod Rows
pub mod Closing
