pub mod Waiting
pub mod Index
pub mod Ready
pub mod Cutting
pub mod Narrowing
pub mod Answerless
pub mod Memory
