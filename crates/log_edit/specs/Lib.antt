-- What the contracts cite beside the definitions of `format` and `log_rules`.
pub mod Join
pub mod Rows
