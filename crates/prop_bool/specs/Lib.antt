pub mod Literals
pub mod Findings
pub mod Parities
