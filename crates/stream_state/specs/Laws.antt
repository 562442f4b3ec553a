-- Laws of the lent bytes of a state.
pub mod Row
pub mod Small
pub mod Bytes
pub mod Working
pub mod Ended
pub mod Again
pub mod Loaded
