pub mod Text
pub mod Stuck
pub mod Heads
