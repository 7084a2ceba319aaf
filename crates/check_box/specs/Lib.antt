pub mod Cases
pub mod Placed
pub mod Room
