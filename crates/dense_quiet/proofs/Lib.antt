pub mod Bounded
pub mod ClauseLaws
mod Counted
pub mod Distances
pub mod EndsCounted
pub mod FarEnds
pub mod Filled
pub mod FullRanges
pub mod ItemLaws
pub mod ItemPlaces
mod ItemRead
pub mod LeftAlone
pub mod OneEnd
pub mod Outside
pub mod PastRoom
pub mod Placed
pub mod Places
mod ReadAt
pub mod Related
pub mod Replaced
mod RoomLeft
mod RoomSteps
pub mod Shared
pub mod Spread
mod SumWalk
pub mod Sums
pub mod ToldLaws
