pub mod Pick
pub mod Scripts
