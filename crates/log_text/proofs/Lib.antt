pub mod Adding
pub mod Digits
pub mod Pieces
pub mod Listed
