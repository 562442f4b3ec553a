pub mod Answers
pub mod Groups
pub mod Kept
pub mod Numbers
pub mod Pieces
pub mod Plain
pub mod Room
pub mod Second
