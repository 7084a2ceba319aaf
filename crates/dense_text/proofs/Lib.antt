pub mod Then
pub mod Spelled
pub mod Whole
pub mod One
pub mod Parsed
pub mod Letters
pub mod NumbersRead
pub mod PiecesKept
pub mod PiecesRead
pub mod StatesKept
pub mod OneText
pub mod Faults
pub mod Telling
pub mod Saying
pub mod Apart
pub mod WholeLines
mod Worked
