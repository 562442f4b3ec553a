-- Laws over plain values for the functions' proofs.
pub mod Counts
pub mod OneWord
