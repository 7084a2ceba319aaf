mod Parts
mod ReadParts
mod Shorts
pub mod UniqueLines
