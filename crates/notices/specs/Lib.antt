-- What the contracts of this crate cite beside the definitions of `format`, and what follows for a capture and for a log.
pub mod Roles
pub mod Table
pub mod Quiet
pub mod Marks
pub mod Laws
