pub mod Ranges
pub mod Marked
pub mod Laid
pub mod Kept
pub mod Seeing
pub mod Comparing
pub mod Starts
pub mod Unseen
