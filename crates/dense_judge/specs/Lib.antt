pub mod Stated
pub mod Gathered
pub mod Gathering
pub mod Shown
pub mod Checking
