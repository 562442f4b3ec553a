-- The laws of a plan's sizes.
pub mod Sizes
