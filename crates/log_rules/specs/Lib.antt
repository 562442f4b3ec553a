-- What is done with logs alone (document 02); the laws, and the promises.
pub mod Pick
pub mod Items
pub mod Profile
pub mod Replay
pub mod Shift
pub mod Scripts
pub mod Laws
