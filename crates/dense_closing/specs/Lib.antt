pub mod Takes
pub mod Closing
pub mod Ends
pub mod ClosingSteps
pub mod Tree
pub mod Expanded
pub mod Laws
