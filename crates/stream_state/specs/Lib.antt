-- The lent bytes of a state, and what they say.
pub mod Layout
pub mod Parts
pub mod Stand
pub mod Again
pub mod Loading
pub mod AtWork
pub mod Storing
pub mod Laws
