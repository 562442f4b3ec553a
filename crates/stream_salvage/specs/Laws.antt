-- The laws behind the promises.
pub mod Shared
pub mod Handed
