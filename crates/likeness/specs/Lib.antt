pub mod Marks
pub mod Seeing
pub mod Likeness
