-- The earliest open notice, by a table from the first word to the last.
pub mod Earliest
pub mod Table
pub mod Rows
pub mod Items
pub mod Words
pub mod Bits
pub mod Capture
pub mod Groups
pub mod Log
pub mod Watch
pub mod Quiet
pub mod Marks
