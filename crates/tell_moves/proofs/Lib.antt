pub mod Putting
pub mod Finding
pub mod Stepping
pub mod Boxed
pub mod NoTuples
pub mod Going
pub mod Placed
pub mod Listed
