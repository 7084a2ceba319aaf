pub mod Assigned
pub mod Balance
pub mod Terms
pub mod Keeping
