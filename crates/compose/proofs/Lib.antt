-- The laws of composing.
pub mod Laws
pub mod Groups
pub mod Answered
