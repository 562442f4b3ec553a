-- What the functions of this crate do, by the definitions of `format`.
pub mod Words
pub mod Laid
pub mod Plain
pub mod Row
