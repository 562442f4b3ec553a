pub mod Opening
pub mod Entries
