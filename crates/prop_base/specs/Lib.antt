pub mod Closed
pub mod Pruning
pub mod Filtering
pub mod Wider
