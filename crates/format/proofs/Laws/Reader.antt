pub mod Back
pub mod Forth
pub mod Groups
pub mod Named
pub mod Onward
pub mod Reads
pub mod Words
