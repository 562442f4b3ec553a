-- What the contracts cite beside the definitions of `format`.
pub mod Running
pub mod Sum
