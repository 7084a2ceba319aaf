pub mod Limit
pub mod Spans
pub mod Quotients
pub mod Remainders
