-- What the contracts cite beside the definitions of `format`.
pub mod Room
