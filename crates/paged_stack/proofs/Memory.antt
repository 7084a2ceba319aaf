-- What the walks of the nodes share.
pub mod Chained
pub mod El
pub mod Pairs
pub mod Room
pub mod Seen
pub mod Shared
pub mod Steps
pub mod Words
