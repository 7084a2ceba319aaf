pub mod Lemmas
pub mod Places
pub mod Literals
pub mod Entailment
pub mod Sums
pub mod Reasons
pub mod InPlace
pub mod Claims
