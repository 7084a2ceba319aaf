pub mod Stated
pub mod Checking
