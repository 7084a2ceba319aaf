pub mod Stake
pub mod Bounded
pub mod Laws
pub mod Refusals
