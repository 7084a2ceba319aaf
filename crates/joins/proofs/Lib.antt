pub mod Compared
pub mod Bests
pub mod ExistsVerdicts
pub mod Gathered
pub mod ForallVerdicts
pub mod DemandSteps
mod ScopesJoined
pub mod Takings
pub mod Placed
pub mod AtScope
pub mod Lengths
pub mod Sizing
pub mod Ends
pub mod Permuted
pub mod AnyOrder
