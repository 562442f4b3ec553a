-- What the contracts cite beside the definitions of `stream_rules`.
pub mod Along
