-- What the functions of this crate answer, by the definitions of `format` and `log_rules`.
pub mod Run
