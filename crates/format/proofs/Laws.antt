pub mod Accepted
pub mod Broken
pub mod Composed
pub mod Composes
pub mod Exactly
pub mod Reader
pub mod Stands
pub mod ThereAndBack
