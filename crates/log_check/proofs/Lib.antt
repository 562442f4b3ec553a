-- The laws of the profile.
pub mod Carried
pub mod Judging
