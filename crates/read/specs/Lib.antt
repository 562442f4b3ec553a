-- What the contracts of the readings cite beside the definitions of `format`.
pub mod Room
