pub mod Ends
pub mod Knowing
pub mod Asides
