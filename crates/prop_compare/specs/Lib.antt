pub mod Compared
pub mod Keeping
pub mod Telling
pub mod Untold
