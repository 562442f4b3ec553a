-- Laws over plain numbers and lists.
pub mod NamedKinds
pub mod Times
