pub mod Bits
pub mod PlansLie
pub mod AfterScopes
pub mod Staying
pub mod Removing
pub mod Targets
pub mod Declared
pub mod WholePlays
pub mod Legal
pub mod Through
pub mod Answering
pub mod Cited
pub mod OwnMoves
pub mod FullBoxes
pub mod Parts
pub mod Strict
pub mod EndsOfPlay
mod Examples
mod Counterexamples
