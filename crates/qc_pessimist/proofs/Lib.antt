pub mod Numbers
pub mod Agree
pub mod Follows
pub mod AtWorst
pub mod NoBetter
pub mod Tables
pub mod Steps
pub mod Doubled
pub mod Sight
pub mod Parts
pub mod Valid
pub mod Owed
mod Cases
