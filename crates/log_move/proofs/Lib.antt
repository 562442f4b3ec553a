pub mod Times
pub mod Tags
pub mod Moving
