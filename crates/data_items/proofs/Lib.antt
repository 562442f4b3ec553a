pub mod Words
pub mod Items
pub mod Row
pub mod First
pub mod Strings
pub mod Taking
pub mod Spot
pub mod Arms
