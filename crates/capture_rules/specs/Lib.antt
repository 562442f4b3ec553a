-- What else is done with captures (document 02); the laws, and the promises.
pub mod Split
pub mod Laws
