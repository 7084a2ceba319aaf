pub mod Slice
pub mod Trims
