pub mod Ascending
pub mod Counted
pub mod Table
pub mod Uses
pub mod Walked
pub mod WordText
pub mod SaidLengths
