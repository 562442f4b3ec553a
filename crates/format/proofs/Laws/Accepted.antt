pub mod Exact
pub mod Faultless
pub mod Stored
pub mod Tidy
pub mod Together
