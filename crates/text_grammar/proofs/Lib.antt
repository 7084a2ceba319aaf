pub mod Complete
pub mod Lists
pub mod Live
pub mod Problems
pub mod Sound
pub mod Steps
pub mod Stops
pub mod TokenLoop
