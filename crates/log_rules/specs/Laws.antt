-- What follows from the definitions.
pub mod Tests
pub mod Onward
pub mod Checking
pub mod Logs
pub mod Ahead
pub mod Faults
pub mod Profile
pub mod Replay
pub mod Shift
pub mod Succeeds
pub mod Scripts
pub mod Second
