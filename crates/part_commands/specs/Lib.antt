pub mod Words
pub mod View
pub mod Pieces
pub mod Answers
pub mod Complete
