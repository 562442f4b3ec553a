-- Laws over plain numbers and lists; `Openers` has those that a caller of `opening` cites.
pub mod Labels
pub mod Begun
pub mod Openers
