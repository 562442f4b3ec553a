-- The laws of what refuses a replay.
pub mod EventRow
pub mod Marks
