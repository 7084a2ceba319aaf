pub mod Turns
pub mod Plays
pub mod Shows
pub mod Closes
pub mod InPlace
pub mod Examples
