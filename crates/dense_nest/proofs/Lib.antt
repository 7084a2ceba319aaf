mod Shown
mod Opening
mod Beginning
mod Casing
mod Openings
pub mod Frames
mod Bests
mod Bounds
mod Tallying
mod Naming
mod Endings
mod Finishing
mod Leaving
mod Closing
mod NodeEnds
mod NodeFinds
