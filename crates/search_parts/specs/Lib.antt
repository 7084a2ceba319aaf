pub mod Own
pub mod Beaten
pub mod Settled
pub mod Bounded
pub mod Uppers
pub mod Made
pub mod Written
pub mod Progress
