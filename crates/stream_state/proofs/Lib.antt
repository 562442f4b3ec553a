-- Laws that the functions' proofs apply.
pub mod Runs
pub mod Used
pub mod Sizes
pub mod Fault
pub mod Loads
pub mod FedAgain
pub mod HeldRow
pub mod Waits
pub mod Parts
pub mod Table
pub mod Zeros
pub mod AtWork
pub mod Stored
pub mod HeldWords
pub mod Behind
