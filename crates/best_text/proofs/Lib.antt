pub mod Alike
pub mod Figures
pub mod Sequence
pub mod Whole
