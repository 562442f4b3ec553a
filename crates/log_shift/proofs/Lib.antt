pub mod Row
pub mod Shifting
