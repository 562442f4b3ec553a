-- What the contracts of the walk over the groups cite beside the definitions of `format`.
pub mod Misplaced
pub mod Groups
pub mod End
