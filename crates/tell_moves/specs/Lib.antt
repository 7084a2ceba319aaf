pub mod Found
pub mod Lines
pub mod Puts
pub mod Stands
