pub mod Truths
pub mod Fixing
pub mod Adding
pub mod Closed
pub mod Signs
pub mod Results
pub mod Removing
pub mod Arguments
pub mod Clauses
pub mod Spans
pub mod Junctions
pub mod Counting
pub mod Odds
pub mod Xors
mod Places
