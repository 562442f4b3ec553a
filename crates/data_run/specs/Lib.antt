-- What the contracts of the data words cite beside the definitions of `format`.
pub mod Fills
pub mod Pass
