pub mod Small
pub mod Entering
pub mod Trees
pub mod Root
pub mod Whole
mod Worked
