pub mod Allowed
pub mod Answers
pub mod Complete
pub mod Opening
pub mod View
pub mod Words
