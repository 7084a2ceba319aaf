pub mod Closing
pub mod Literals
pub mod Skipping
pub mod Watching
