pub mod Lists
pub mod Scopes
pub mod Entailments
pub mod Allowed
pub mod Sums
pub mod Literals
pub mod Answers
pub mod Tells
