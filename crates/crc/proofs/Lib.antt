-- The laws of the division, over plain numbers and lists.
pub mod Xor
pub mod Division
pub mod Running
pub mod Linear
pub mod Parity
pub mod Kept
pub mod Law
pub mod Five
pub mod Low
pub mod Same
pub mod Sums
