-- What follows from the salvage of K10.
pub mod Refusals
