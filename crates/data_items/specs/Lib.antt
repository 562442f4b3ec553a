-- The words of a row, and items taken whole from them.
pub mod Row
pub mod Taken
