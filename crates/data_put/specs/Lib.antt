-- What the contract cites beside the definitions of `format`.
pub mod Put
