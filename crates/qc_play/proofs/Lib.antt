pub mod Endings
pub mod Telling
pub mod Going
pub mod Ranges
pub mod Shapes
pub mod Replies
pub mod Turns
pub mod Making
pub mod Starts
mod Proving
mod Plays
pub mod LeavesMore
pub mod BestLeaf
pub mod LeafEntries
pub mod QuietLeaves
pub mod Lexicographic
pub mod SortedAnswers
pub mod Finishing
pub mod Finished
pub mod ShownVerdicts
pub mod Backs
pub mod TreeSizes
pub mod Tellings
pub mod PartLines
pub mod StepLines
pub mod CaseLines
pub mod NodeLines
pub mod Stepping
mod Putting
mod Judging
mod Listings
pub mod ScopeEnds
pub mod Branching
pub mod Readable
pub mod Outcomes
pub mod AtLevels
pub mod Leafing
pub mod Parted
pub mod OwnTrees
pub mod TupleReads
