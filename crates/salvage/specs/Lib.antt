-- What the contracts cite beside the definitions of `salvage_rules`.
pub mod Room
