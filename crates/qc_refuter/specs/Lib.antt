pub mod Shown
pub mod Met
pub mod Spanned
pub mod Full
pub mod Commons
pub mod Stretches
pub mod Members
