pub mod Account
pub mod Call
pub mod Named
pub mod Places
pub mod Plain
