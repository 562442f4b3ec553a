pub mod Fields
pub mod Shapes
pub mod Ends
pub mod Items
pub mod Whole
pub mod Widths
