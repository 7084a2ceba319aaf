pub mod Places
pub mod Checking
pub mod Keeping
pub mod Shown
pub mod Giving
