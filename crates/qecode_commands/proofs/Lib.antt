pub mod Written
mod Certified
mod Compared
pub mod Completeness
pub mod Down
mod Feeding
pub mod FormulaGames
mod Numerals
mod Parts
pub mod Played
pub mod PlaysDone
mod Summarised
pub mod Told
