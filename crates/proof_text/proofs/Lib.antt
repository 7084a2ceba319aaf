mod LevelsKept
mod LinesRead
mod Numerals
mod Openings
mod PartLines
pub mod Standings
mod Examples
pub mod Grammar
pub mod Digits
pub mod Choices
pub mod Forward
pub mod Backward
pub mod Numbers
pub mod Owed
pub mod Verdicts
pub mod Sequences
pub mod StepLines
pub mod TreeParts
pub mod PlacesFound
pub mod Prefixes
pub mod Unique
pub mod UniqueTrees
pub mod EachText
pub mod Ends
pub mod Walking
pub mod Saying
pub mod FittingLines
pub mod UniqueLines
pub mod Telling
pub mod OneAnswer
mod WholeLines
mod Passing
