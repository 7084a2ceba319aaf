pub mod Quiet
pub mod Different
pub mod Parts
