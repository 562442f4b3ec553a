-- Laws over plain numbers and lists; `Meaning` has those that a caller cites.
pub mod Flat
pub mod Going
pub mod Unawaited
pub mod Ending
pub mod Numbers
pub mod Short
pub mod Meaning
