mod Rules
pub mod Own
mod Watched
mod Open
mod Kept
mod Passed
mod Spared
mod Terms
mod Resting
mod Woken
mod Since
mod Declared
pub mod Means
pub mod Room
mod Waits
