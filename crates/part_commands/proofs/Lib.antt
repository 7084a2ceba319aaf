pub mod Fronts
pub mod Values
pub mod Naming
pub mod Answered
pub mod Writing
pub mod Asking
pub mod Settled
