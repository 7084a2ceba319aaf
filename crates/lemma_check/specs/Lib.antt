pub mod Books
pub mod Claims
pub mod Gaps
pub mod Held
pub mod Machine
