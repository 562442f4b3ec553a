pub mod Large
pub mod Whole
