-- The one_bus test profile (K11).
pub mod Rules
pub mod Exactly
