-- What is held as three numbers, what a word starts, and what it opens where nothing is held.
pub mod Holding
pub mod Step
pub mod Opening
pub mod Begins
