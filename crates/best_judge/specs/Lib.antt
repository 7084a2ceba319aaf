pub mod Asked
pub mod Proof
pub mod Parts
pub mod Laws
