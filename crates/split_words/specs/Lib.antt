-- What the contracts cite beside the definitions of `format` and `capture_rules`.
pub mod Fault
