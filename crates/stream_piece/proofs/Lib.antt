pub mod Laid
pub mod Group
pub mod Piece
