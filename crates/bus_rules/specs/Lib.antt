-- What the words on some buses tell (document 02, K14).
pub mod Buses
pub mod Laws
pub mod Cases
