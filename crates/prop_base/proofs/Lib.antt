pub mod Steps
pub mod Keeps
pub mod Widening
mod OneEnd
pub mod Whole
mod SameValues
pub mod Prunings
mod Walked
