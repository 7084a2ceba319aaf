pub mod Adding
mod Doubled
pub mod Owning
pub mod Seeing
pub mod Plain
pub mod Likes
mod Known
pub mod Lines
mod Steps
