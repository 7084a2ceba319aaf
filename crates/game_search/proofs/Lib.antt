pub mod Answered
pub mod Kept
pub mod RootTold
pub mod Rooted
pub mod Roots
pub mod Solved
pub mod Trees
