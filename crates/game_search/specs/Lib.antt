pub mod Attempted
pub mod Beside
pub mod Pieces
pub mod Solution
