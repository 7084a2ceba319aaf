pub mod Each
pub mod Written
pub mod Parts
pub mod Faults
pub mod Placed
pub mod Orders
pub mod Counts
pub mod Differ
pub mod Ascending
pub mod Domains
pub mod Lookups
pub mod Targets
pub mod Constraints
pub mod Sight
pub mod Validity
mod Examples
