-- What the functions of this crate answer, by the definitions of `format`.
pub mod Cursor
pub mod Fields
pub mod Found
pub mod Tally
