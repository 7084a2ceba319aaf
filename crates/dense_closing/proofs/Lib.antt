pub mod Within
pub mod Own
pub mod Keeping
pub mod Closing
pub mod Standing
pub mod Lines
pub mod Outcomes
mod ClosedBoxes
mod Trees
