pub mod Answers
pub mod Complete
pub mod Fed
pub mod View
pub mod Words
