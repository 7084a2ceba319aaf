pub mod Spelled
pub mod NumbersRead
pub mod PiecesRead
pub mod Lists
pub mod OneList
pub mod NumbersKept
pub mod PiecesKept
pub mod StatesKept
pub mod Faults
pub mod Apart
pub mod Telling
pub mod Saying
pub mod Counting
mod Worked
