pub mod Values
pub mod Cuts
pub mod Parts
