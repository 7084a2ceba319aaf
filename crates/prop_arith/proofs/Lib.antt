pub mod Three
pub mod Sums
pub mod Keeping
pub mod GreaterHulls
pub mod GreaterShapes
