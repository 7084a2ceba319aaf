pub mod Seen
pub mod Terms
pub mod Ready
pub mod ItemEnds
pub mod Places
pub mod Walks
mod ItemWalks
mod SumPlaces
mod LowPlaces
mod ReadAt
mod Remainders
pub mod WidestRanges
pub mod Results
pub mod Fill
pub mod Domains
pub mod Bits
pub mod Commons
pub mod Taken
pub mod Seated
pub mod EndsRead
pub mod Listed
