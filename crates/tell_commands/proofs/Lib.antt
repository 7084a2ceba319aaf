pub mod Positions
pub mod Begun
pub mod Settled
pub mod Named
pub mod Opened
