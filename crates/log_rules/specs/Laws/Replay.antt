-- Replay the front-end buffer (K13).
pub mod Conserved
pub mod Accounts
