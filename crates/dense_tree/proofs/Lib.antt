pub mod Words
mod Closings
mod References
mod Joint
mod Given
mod LooseParts
mod Taken
mod Replies
mod Counterexamples
mod Outcomes
mod Ends
mod Texts
