pub mod Last
pub mod Written
pub mod Values
pub mod Boxes
pub mod Apart
pub mod Bools
pub mod Kept
pub mod Items
mod Marks
pub mod Growing
