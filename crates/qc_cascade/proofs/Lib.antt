pub mod Declared
pub mod Pruned
pub mod Placed
mod Added
mod Back
mod Joint
