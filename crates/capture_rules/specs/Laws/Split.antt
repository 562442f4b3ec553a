-- What follows from the two operations of K3.
pub mod Places
pub mod Faults
pub mod Second
