pub mod Ledger
pub mod Held
pub mod Whole
