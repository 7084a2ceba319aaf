mod Filling
mod Boxes
pub mod Marks
mod Steps
pub mod Right
