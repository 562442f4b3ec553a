-- What follows from the stream of K4.
pub mod Bits
pub mod Feed
pub mod Fits
pub mod Waiting
pub mod Moved
pub mod Held
pub mod Code
pub mod Earliest
