pub mod Written
pub mod Asked
pub mod Apart
pub mod Repeats
