-- What the contracts of this crate cite, and where the earliest open notice of a log begins.
pub mod Bits
pub mod Laws
