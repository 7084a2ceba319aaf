-- What the walks of a block share.
pub mod Numbers
pub mod Parts
pub mod Values
pub mod Walks
