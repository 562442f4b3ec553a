-- What the contracts on runs of bytes cite.
pub mod Counts
