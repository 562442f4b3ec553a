-- What the functions of this crate answer, by the definitions of `format`.
pub mod Piece
