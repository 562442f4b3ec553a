-- What the contracts cite beside the definitions of `format` and `salvage_rules`.
pub mod Tape
