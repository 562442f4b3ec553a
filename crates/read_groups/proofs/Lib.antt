-- The laws of the walk over the groups.
pub mod Misplaced
pub mod Numbered
pub mod Groups
pub mod End
