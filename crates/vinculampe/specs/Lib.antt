-- What is promised of the C functions.
pub mod Before
pub mod Calls
pub mod Laws
pub mod Scripts
pub mod Promises
pub mod SplitPromises
pub mod SalvagePromises
pub mod BusPromises
pub mod StreamPromises
