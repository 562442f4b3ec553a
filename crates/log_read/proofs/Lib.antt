pub mod Eight
pub mod Taken
pub mod Table
pub mod Items
pub mod Ending
pub mod Parsing
