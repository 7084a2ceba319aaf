pub mod Held
pub mod Places
pub mod Trail
pub mod Sound
pub mod Takes
pub mod Added
