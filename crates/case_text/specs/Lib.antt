-- What the contracts on the text of cases cite.
pub mod Digest
pub mod Number
pub mod Words
