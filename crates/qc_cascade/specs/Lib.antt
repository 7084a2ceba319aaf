pub mod Adding
pub mod Ahead
