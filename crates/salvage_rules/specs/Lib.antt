-- Salvage of a damaged capture (document 02, K10): the definitions, the laws, and the promises.
pub mod Salvage
pub mod Laws
